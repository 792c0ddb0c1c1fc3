use Rattle.std.proofs.Common.{FitsSigned, rules, w16, w64, ◌∙◌, sym}
use Rattle.std.proofs.lemmas.Int.{to_z-of_z}
use Rattle.subsetter_variation.proofs.GlyphsLaws.Between.{below, above}
use Rattle.subsetter_variation.proofs.LocationsLaws.Bounds.{apart}
use Rattle.subsetter_variation.proofs.glyphs.inference.between_ordered.Goals as goal

pub returns-then-x-low-clause-value : goal.returns-then-x-low-clause-value
returns-then-x-low-clause-value c =
    let f1 : FitsSigned w16 c.args.low.at = search rules in
    let f3 : FitsSigned w16 c.args.low.delta = search rules in
    let f5 : FitsSigned w16 c.args.x = search rules in
    let f6 : FitsSigned w64 c.args.scalar = search rules in
    let f10 : FitsSigned w64 c.scalar_times_delta-then-x-low.result = search rules in
    let b = simp to_z-of_z at c.if-x-low.true in
    let s = simp to_z-of_z at c.scalar_times_delta-then-x-low.ensures.value in
    let e = below c.args.x c.args.low c.args.high c.args.scalar (apart c.args.low.at c.args.high.at c.if-low-high.false) b in
    simp to_z-of_z (s ∙ sym e)

pub returns-then-high-x-clause-value : goal.returns-then-high-x-clause-value
returns-then-high-x-clause-value c =
    let f1 : FitsSigned w16 c.args.low.at = search rules in
    let f2 : FitsSigned w16 c.args.high.at = search rules in
    let f3 : FitsSigned w16 c.args.high.delta = search rules in
    let f5 : FitsSigned w16 c.args.x = search rules in
    let f6 : FitsSigned w64 c.args.scalar = search rules in
    let f10 : FitsSigned w64 c.scalar_times_delta-then-high-x.result = search rules in
    let b = simp to_z-of_z at c.if-x-low.false in
    let h = simp to_z-of_z at c.if-high-x.true in
    let s = simp to_z-of_z at c.scalar_times_delta-then-high-x.ensures.value in
    let e = above c.args.x c.args.low c.args.high c.args.scalar (apart c.args.low.at c.args.high.at c.if-low-high.false) b h in
    simp to_z-of_z (s ∙ sym e)
