use Rattle.std.proofs.Common.{◌≡◌, take}
use Rattle.subsetter_variation.specs.Glyphs.Varied.{untouched}
use Rattle.subsetter_variation.proofs.glyphs.varied.untouched.Given as goal

abbrev pub invariant-loop-at : goal.invariant-loop-at
invariant-loop-at l = l.points.items ≡ untouched (take l.at-index l.coordinates)
