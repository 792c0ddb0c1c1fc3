use Rattle.std.proofs.Common.{◌≡◌, ◌++◌, map, drop}
use Rattle.subsetter_c.specs.Settings.{setting, settings_of}
use Rattle.subsetter_c.proofs.settings.settings_of.Given as goal

abbrev pub invariant-loop-coordinate : goal.invariant-loop-coordinate
invariant-loop-coordinate l = l.settings.items ++ map setting (drop l.coordinate-index l.coordinates) ≡ settings_of l.coordinates
