use Rattle.std.proofs.Common.{◌≡◌, take}
use Rattle.subsetter_variation.specs.Glyphs.Inferred.{last_touched}
use Rattle.subsetter_variation.proofs.glyphs.contour.last_touched.Given as goal

abbrev pub invariant-loop-point : goal.invariant-loop-point
invariant-loop-point l = l.last ≡ last_touched (take l.point-index l.points)
