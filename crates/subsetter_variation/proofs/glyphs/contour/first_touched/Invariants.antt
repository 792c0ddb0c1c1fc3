use Rattle.std.proofs.Common.{◌≡◌, drop}
use Rattle.subsetter_variation.specs.Glyphs.Inferred.{first_touched}
use Rattle.subsetter_variation.proofs.glyphs.contour.first_touched.Given as goal

abbrev pub invariant-loop-point : goal.invariant-loop-point
invariant-loop-point l = first_touched (drop l.point-index l.points) ≡ first_touched l.points
