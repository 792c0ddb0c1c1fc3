use Rattle.std.proofs.Common.{◌≡◌, ◌∷◌, ◌+◌, true, false, pos, drop, get_or, w16, sym, ap, ◌∙◌, arith, rules}
use Rattle.std.proofs.lemmas.List.{drop_more, drop_all}
use Rattle.std.proofs.lemmas.Int.{to_z-of_z}
use mir.Val.{SFits, to_z}
use Rattle.subsetter_points.specs.declared.outline.Point.{Point}
use Rattle.subsetter_points.specs.Simple.{column_of, coordinate_in, has_16_bits}
use Rattle.subsetter_points.proofs.WriteLemmas.{fits_is, fit_step, fit_over}
use Rattle.subsetter_points.proofs.list_bytes.fitting.column_fits.Goals as goal

abbrev none : Point
none = record { x = pos 0; y = pos 0; on_curve = false }

pub loop-point-preserved : goal.loop-point-preserved
loop-point-preserved c =
    let k = c.args.column in
    let all = c.args.points.now in
    let i = c.loop-point.point-index in
    let p = get_or all i none in
    let d : drop i all ≡ p ∷ drop (i + 1) all = drop_more all i none (omega arith) in
    let x = c.coordinate_in-coordinate.result in
    let f : SFits w16 x = search rules in
    let e = to_z-of_z w16 x f in
    let is : x ≡ coordinate_in k p = c.coordinate_in-coordinate.ensures in
    let v = to_z w16 c.loop-point.before-bits in
    let fits : has_16_bits (coordinate_in k p) ≡ true = ap has_16_bits (sym is) ∙ fits_is x f in
    let step = fit_step c.loop-point.fit v (coordinate_in k p) (column_of k (drop i all)) (column_of k (drop (i + 1) all)) (ap (column_of k) d) fits in
    cc (step, e, is, c.loop-point.invariant, c.delta_fits.ensures, c.both-fit.ensures)

pub returns : goal.returns
returns c =
    let k = c.args.column in
    let all = c.args.points.now in
    let i = c.loop-point.point-index in
    sym (c.loop-point.invariant ∙ fit_over c.loop-point.fit (to_z w16 c.loop-point.before-bits) (column_of k (drop i all)) (ap (column_of k) (drop_all i all (omega arith))))
