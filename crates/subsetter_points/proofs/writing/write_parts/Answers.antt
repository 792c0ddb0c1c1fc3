use Rattle.std.proofs.Common.{◌≡◌, ◌∷◌, [], ◌++◌, ◌<◌, true, false, pos, length, drop, get_or, w16, sym, ap, ◌∙◌, arith}
use Rattle.std.specs.Int.{to_be_bytes}
use Rattle.std.proofs.lemmas.Bool.{eqb-true, eqb-false}
use Rattle.std.proofs.lemmas.List.{drop_more, append-nil}
use Rattle.subsetter_points.specs.declared.bounds.Bounds.{Bounds}
use Rattle.subsetter_points.specs.declared.outline.Point.{Point}
use Rattle.subsetter_points.specs.Bounds.{bounds_bytes, bounds_of}
use Rattle.subsetter_points.specs.Simple.{xs_of, ys_of, box, end_bytes, flag_bytes, delta_bytes}
use Rattle.subsetter_points.proofs.BoundsLaws.{bytes_of_box}
use Rattle.subsetter_points.proofs.WriteLemmas.{seven_written, parts_bytes_cons, parts_bytes_nil}
use Rattle.subsetter_points.proofs.writing.write_parts.Goals as goal

abbrev none : Point
none = record { x = pos 0; y = pos 0; on_curve = false }

pub returns-then-is_empty-clause-ok : goal.returns-then-is_empty-clause-ok
returns-then-is_empty-clause-ok c =
    let e = parts_bytes_nil c.args.ends.now c.args.points.now (eqb-true (length c.args.points.now) 0 (sym c.if-is_empty.ensures)) in
    sym (ap (λ l. c.args.out.now.items ++ l) e ∙ append-nil c.args.out.now.items)

pub returns-clause-ok : goal.returns-clause-ok
returns-clause-ok c =
    let out = c.args.out.now.items in
    let es = c.args.ends.now in
    let all = c.args.points.now in
    let p = get_or all 0 none in
    let some : 0 < length all = omega (arith, eqb-false (length all) 0 (sym c.if-is_empty.ensures)) in
    let d : all ≡ p ∷ drop 1 all = drop_more all 0 none some in
    let h1 : c.extend_from_slice.new.self.items ≡ out ++ to_be_bytes w16 (length es) = c.in_ok-extend_from_slice.ensures.items ∙ ap (λ l. out ++ l) c.to_be_bytes.ensures in
    let h2 : c.write_bounds.new.out.items ≡ c.extend_from_slice.new.self.items ++ box p (drop 1 all) = c.in_ok-write_bounds.ensures ∙ ap (λ (b : Bounds). c.extend_from_slice.new.self.items ++ bounds_bytes b) (c.requires.bounds ∙ ap bounds_of d) ∙ ap (λ l. c.extend_from_slice.new.self.items ++ l) (bytes_of_box p (drop 1 all)) in
    let h4 : c.extend_from_slice-2.new.self.items ≡ c.write_ends.new.out.items ++ 0 ∷ 0 ∷ [] = c.in_ok-extend_from_slice-2.ensures.items in
    seven_written out (to_be_bytes w16 (length es)) (box p (drop 1 all)) (end_bytes es) (0 ∷ 0 ∷ []) (flag_bytes true (pos 0) (pos 0) all) (delta_bytes (pos 0) (xs_of all)) (delta_bytes (pos 0) (ys_of all))
    c.extend_from_slice.new.self.items c.write_bounds.new.out.items c.write_ends.new.out.items c.extend_from_slice-2.new.self.items c.write_flags.new.out.items c.write_deltas.new.out.items c.write_deltas-2.new.out.items
    h1 h2 c.in_ok-write_ends.ensures.ok h4 c.in_ok-write_flags.ensures.ok c.in_ok-write_deltas.ensures.ok c.in_ok-write_deltas-2.ensures.ok
    ∙ ap (λ l. out ++ l) (sym (parts_bytes_cons es all (drop 1 all) p d))
