use Rattle.std.proofs.Common.{◌≡◌, ◌∷◌, ◌+◌, false, pos, drop, get_or, w16, sym, ap, ◌∙◌, arith, rules}
use Rattle.std.proofs.lemmas.List.{drop_more, drop_all}
use Rattle.std.proofs.lemmas.Int.{to_z-of_z}
use mir.Val.{SFits, to_z}
use Rattle.subsetter_points.specs.declared.outline.Point.{Point}
use Rattle.subsetter_points.specs.Simple.{xs_of, ys_of}
use Rattle.subsetter_points.proofs.WriteLemmas.{deltas_next, flags_written, flags_written_end}
use Rattle.subsetter_points.proofs.list_bytes.flag_bytes.write_flags.Goals as goal

abbrev none : Point
none = record { x = pos 0; y = pos 0; on_curve = false }

pub delta_between-by_x-requires : goal.delta_between-by_x-requires
delta_between-by_x-requires c =
    let all = c.args.points.now in
    let i = c.loop-point.point-index in
    let p = get_or all i none in
    let d : drop i all ≡ p ∷ drop (i + 1) all = drop_more all i none (omega arith) in
    let f : SFits w16 p.x = search rules in
    let e = to_z-of_z w16 p.x f in
    let next = deltas_next _ p.x (xs_of (drop i all)) (xs_of (drop (i + 1) all)) (ap xs_of d) c.loop-point.invariant.xs_fit in
    cc (next.0, e)

pub delta_between-by_y-requires : goal.delta_between-by_y-requires
delta_between-by_y-requires c =
    let all = c.args.points.now in
    let i = c.loop-point.point-index in
    let p = get_or all i none in
    let d : drop i all ≡ p ∷ drop (i + 1) all = drop_more all i none (omega arith) in
    let f : SFits w16 p.y = search rules in
    let e = to_z-of_z w16 p.y f in
    let next = deltas_next _ p.y (ys_of (drop i all)) (ys_of (drop (i + 1) all)) (ap ys_of d) c.loop-point.invariant.ys_fit in
    cc (next.0, e)

pub loop-point-preserved : goal.loop-point-preserved
loop-point-preserved c =
    let all = c.args.points.now in
    let i = c.loop-point.point-index in
    let p = get_or all i none in
    let d : drop i all ≡ p ∷ drop (i + 1) all = drop_more all i none (omega arith) in
    let fx : SFits w16 p.x = search rules in
    let fy : SFits w16 p.y = search rules in
    let ex = to_z-of_z w16 p.x fx in
    let ey = to_z-of_z w16 p.y fy in
    let gx : SFits w16 c.delta_between-by_x.result = search rules in
    let gy : SFits w16 c.delta_between-by_y.result = search rules in
    let hx = to_z-of_z w16 c.delta_between-by_x.result gx in
    let hy = to_z-of_z w16 c.delta_between-by_y.result gy in
    let nx = deltas_next _ p.x (xs_of (drop i all)) (xs_of (drop (i + 1) all)) (ap xs_of d) c.loop-point.invariant.xs_fit in
    let ny = deltas_next _ p.y (ys_of (drop i all)) (ys_of (drop (i + 1) all)) (ap ys_of d) c.loop-point.invariant.ys_fit in
    let more = flags_written c.loop-point.out.items c.push_reserved.new.self.items c.loop-point.overlap (to_z w16 c.loop-point.x-bits) (to_z w16 c.loop-point.y-bits) (drop i all) (drop (i + 1) all) p d (cc (ex, ey, hx, hy, c.push_reserved.ensures.items, c.flag_of.ensures, c.delta_between-by_x.ensures, c.delta_between-by_y.ensures)) in
    record {
      written = cc (more, ex, ey, c.loop-point.invariant.written);
      room = omega (arith, c.loop-point.invariant.room, c.push_reserved.ensures.len, c.push_reserved.ensures.capacity);
      xs_fit = cc (nx.1, ex);
      ys_fit = cc (ny.1, ey);
    }

pub returns-clause-ok : goal.returns-clause-ok
returns-clause-ok c =
    let all = c.args.points.now in
    let i = c.loop-point.point-index in
    sym (c.loop-point.invariant.written ∙ flags_written_end c.loop-point.out.items c.loop-point.overlap _ _ (drop i all) (drop_all i all (omega arith)))
