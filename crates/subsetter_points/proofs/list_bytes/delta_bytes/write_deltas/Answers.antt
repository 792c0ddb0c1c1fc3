use Rattle.std.proofs.Common.{◌≡◌, ◌∷◌, ◌+◌, false, pos, drop, get_or, w16, sym, ap, ◌∙◌, arith, rules}
use Rattle.std.proofs.lemmas.List.{drop_more, drop_all}
use Rattle.std.proofs.lemmas.Int.{to_z-of_z}
use mir.Val.{SFits, to_z}
use Rattle.subsetter_points.specs.declared.outline.Point.{Point}
use Rattle.subsetter_points.specs.Simple.{column_of, coordinate_in}
use Rattle.subsetter_points.proofs.WriteLemmas.{deltas_next, deltas_written, deltas_end}
use Rattle.subsetter_points.proofs.list_bytes.delta_bytes.write_deltas.Goals as goal

abbrev none : Point
none = record { x = pos 0; y = pos 0; on_curve = false }

pub delta_between-requires : goal.delta_between-requires
delta_between-requires c =
    let k = c.args.column in
    let all = c.args.points.now in
    let i = c.loop-point.point-index in
    let p = get_or all i none in
    let d : drop i all ≡ p ∷ drop (i + 1) all = drop_more all i none (omega arith) in
    let x = c.coordinate_in-coordinate.result in
    let f : SFits w16 x = search rules in
    let e = to_z-of_z w16 x f in
    let is : x ≡ coordinate_in k p = c.coordinate_in-coordinate.ensures in
    let next = deltas_next _ (coordinate_in k p) (column_of k (drop i all)) (column_of k (drop (i + 1) all)) (ap (column_of k) d) c.loop-point.invariant.fit in
    cc (next.0, e, is)

pub loop-point-preserved : goal.loop-point-preserved
loop-point-preserved c =
    let k = c.args.column in
    let all = c.args.points.now in
    let i = c.loop-point.point-index in
    let p = get_or all i none in
    let d : drop i all ≡ p ∷ drop (i + 1) all = drop_more all i none (omega arith) in
    let x = c.coordinate_in-coordinate.result in
    let f : SFits w16 x = search rules in
    let e = to_z-of_z w16 x f in
    let is : x ≡ coordinate_in k p = c.coordinate_in-coordinate.ensures in
    let g : SFits w16 c.delta_between.result = search rules in
    let h = to_z-of_z w16 c.delta_between.result g in
    let next = deltas_next _ (coordinate_in k p) (column_of k (drop i all)) (column_of k (drop (i + 1) all)) (ap (column_of k) d) c.loop-point.invariant.fit in
    let more = deltas_written c.loop-point.out.items c.write_delta.new.out.items (to_z w16 c.loop-point.before-bits) (coordinate_in k p) (column_of k (drop i all)) (column_of k (drop (i + 1) all)) (ap (column_of k) d) (cc (e, is, h, c.in_ok-write_delta.ensures.ok, c.delta_between.ensures)) in
    record {
      written = cc (more, e, is, c.loop-point.invariant.written);
      room = omega (arith, c.loop-point.invariant.room, c.write_delta.ensures.len, c.write_delta.ensures.capacity);
      fit = cc (next.1, e, is);
    }

pub returns-clause-ok : goal.returns-clause-ok
returns-clause-ok c =
    let k = c.args.column in
    let all = c.args.points.now in
    let i = c.loop-point.point-index in
    sym (c.loop-point.invariant.written ∙ deltas_end c.loop-point.out.items _ (column_of k (drop i all)) (ap (column_of k) (drop_all i all (omega arith))))
