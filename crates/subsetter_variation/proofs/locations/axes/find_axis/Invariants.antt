use Rattle.std.proofs.Common.{◌≡◌, drop}
use Rattle.subsetter_variation.specs.Locations.Axes.{find_axis}
use Rattle.subsetter_variation.proofs.locations.axes.find_axis.Given as goal

abbrev pub invariant-loop-axis : goal.invariant-loop-axis
invariant-loop-axis l = find_axis l.tag.0 (drop l.axis-index l.axes) ≡ find_axis l.tag.0 l.axes
