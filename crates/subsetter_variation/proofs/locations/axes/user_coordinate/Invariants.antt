use Rattle.std.proofs.Common.{◌≡◌, drop}
use Rattle.subsetter_variation.specs.Locations.Axes.{user_coordinate, user_coordinate_from}
use Rattle.subsetter_variation.proofs.locations.axes.user_coordinate.Given as goal

abbrev pub invariant-loop-setting : goal.invariant-loop-setting
invariant-loop-setting l = user_coordinate_from l.value l.axis.tag.0 (drop l.setting-index l.settings) ≡ user_coordinate l.axis l.settings
