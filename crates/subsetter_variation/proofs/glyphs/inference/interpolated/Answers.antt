use Rattle.std.proofs.Common.{◌≤◌, ◌^◌, ap, arith, unsigned_abs, FitsSigned, rules, w16, w64}
use Rattle.std.proofs.lemmas.Int.{ints, to_z-of_z}
use Rattle.subsetter_variation.proofs.GlyphsLaws.Between.{interpolated_small}
use Rattle.subsetter_variation.specs.Glyphs.Inferred.{interpolated}
use Rattle.subsetter_variation.proofs.glyphs.inference.interpolated.Goals as goal

pub returns-clause-value : goal.returns-clause-value
unfolding interpolated
returns-clause-value c =
    let f1 : FitsSigned w16 c.args.low.at = search rules in
    let f2 : FitsSigned w16 c.args.high.at = search rules in
    let f3 : FitsSigned w16 c.args.low.delta = search rules in
    let f4 : FitsSigned w16 c.args.high.delta = search rules in
    let f5 : FitsSigned w16 c.args.x = search rules in
    let f6 : FitsSigned w64 c.args.scalar = search rules in
    let f7 : FitsSigned w64 c.distance.result = search rules in
    let f8 : FitsSigned w64 c.distance-2.result = search rules in
    let f9 : FitsSigned w64 c.blend-toward.result = search rules in
    let f10 : FitsSigned w64 c.scaled.result = search rules in
    let f11 : FitsSigned w64 c.nearest.result = search rules in
    let f12 : FitsSigned w64 c.from.result = search rules in
    let f13 : FitsSigned w64 c.from-2.result = search rules in
    let a = simp to_z-of_z at c.distance.ensures.value in
    let b = simp to_z-of_z at c.distance-2.ensures.value in
    let l = simp to_z-of_z at c.from.ensures in
    let h = simp to_z-of_z at c.from-2.ensures in
    let t = simp to_z-of_z at c.blend-toward.ensures.value in
    let s = simp to_z-of_z at c.scaled.ensures.value in
    let w = simp to_z-of_z at c.width.ensures.value in
    let n = simp to_z-of_z at c.nearest.ensures in
    simp to_z-of_z cc

pub returns-clause-bound : goal.returns-clause-bound
returns-clause-bound c =
    let l : unsigned_abs c.args.low.delta ≤ 2 ^ 15 = omega (arith, ints) in
    let h : unsigned_abs c.args.high.delta ≤ 2 ^ 15 = omega (arith, ints) in
    omega (arith, ap unsigned_abs (returns-clause-value c), interpolated_small c.args.x c.args.low c.args.high c.args.scalar (2 ^ 30) (2 ^ 15) c.requires.above c.requires.below l h c.requires.scalar)
