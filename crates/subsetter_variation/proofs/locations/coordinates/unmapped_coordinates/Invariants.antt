use Rattle.std.proofs.Common.{◌≡◌, take}
use Rattle.subsetter_variation.specs.Locations.Coordinates.{unmapped_coordinates}
use Rattle.subsetter_variation.proofs.locations.coordinates.unmapped_coordinates.Given as goal

abbrev pub invariant-loop-axis : goal.invariant-loop-axis
invariant-loop-axis l = l.coordinates.items ≡ unmapped_coordinates l.settings (take l.axis-index l.axes)
