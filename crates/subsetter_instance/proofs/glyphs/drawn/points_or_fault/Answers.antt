use Rattle.std.proofs.Common.{◌≡◌, ◌<◌, ◌≤◌, ◌^◌, ℤ, false, pos, length, get_or, Ok, Err, refl, sym, ap, ◌∙◌, arith, w64, to_z, of_z, unsigned_abs}
use Rattle.std.proofs.lemmas.Result.{err_from_is_err_and}
use Rattle.std.proofs.lemmas.Int.{to_z-of_z, fits_signed_from_abs}
use Rattle.std.proofs.lemmas.List.{get_or-map}
use Rattle.subsetter_base.specs.Bytes.{has_flag}
use Rattle.subsetter_instance.specs.Glyphs.Drawn.{point_or_fault, points_or_fault}
use Rattle.subsetter_instance.specs.Glyphs.Unfolded.{on_curve}
use Rattle.subsetter_instance.proofs.GlyphsLaws.Points.{fails, points_step, points_cut}
use Rattle.subsetter_instance.proofs.GlyphsLaws.Reach.{on_count}
use Rattle.subsetter_instance.proofs.glyphs.drawn.points_or_fault.Goals as goal

kept : (z : ℤ) → unsigned_abs z ≤ 2 ^ 58 → to_z w64 (of_z w64 z) ≡ z
kept z h = to_z-of_z w64 z (fits_signed_from_abs w64 z (omega arith))

near : (z : ℤ) → unsigned_abs z ≤ 2 ^ 45 → to_z w64 (of_z w64 z) ≡ z
near z h = kept z (omega arith)

pub loop-i-preserved : goal.loop-i-preserved
loop-i-preserved c =
    let i = c.loop-i.i in
    let o = c.is_on_curve.result in
    let x = get_or c.args.xs.now i (pos 0) in
    let y = get_or c.args.ys.now i (pos 0) in
    let count = on_count c.args.on.now in
    let less : i < length (on_curve c.args.on.now) = omega (arith, count) in
    let ho : o ≡ get_or (on_curve c.args.on.now) i false = c.is_on_curve.ensures ∙ sym (get_or-map (λ f. has_flag f 1) c.args.on.now i 0 false (omega arith)) in
    let kl : to_z w64 (of_z w64 c.args.left) ≡ c.args.left = kept c.args.left c.requires.left in
    let kx : to_z w64 (of_z w64 x) ≡ x = near x (c.requires.xs i (pos 0) (omega arith)) in
    let ky : to_z w64 (of_z w64 y) ≡ y = near y (c.requires.ys i (pos 0) (omega arith)) in
    let e = ap (λ l. point_or_fault l o (to_z w64 (of_z w64 x)) (to_z w64 (of_z w64 y))) kl ∙ ap (λ z. point_or_fault c.args.left o z (to_z w64 (of_z w64 y))) kx ∙ ap (λ z. point_or_fault c.args.left o x z) ky in
    let h : point_or_fault c.args.left o x y ≡ Ok c.in_ok-point_or_fault.field-0 = sym e ∙ sym c.point_or_fault.ensures ∙ c.in_ok-point_or_fault.was in
    let step = points_step c.args.left (on_curve c.args.on.now) c.args.xs.now c.args.ys.now i c.loop-i.points.items o x y c.in_ok-point_or_fault.field-0 less (c.requires.many_xs ∙ sym count) (c.requires.many_ys ∙ sym count) ho refl refl h in
    record {
      value = cc (step, kl, c.loop-i.invariant.value, c.push_reserved.ensures.items);
      room = omega (arith, c.loop-i.invariant.room, c.push_reserved.ensures.len, c.push_reserved.ensures.capacity);
    }

pub returns-in_err-point_or_fault : goal.returns-in_err-point_or_fault
returns-in_err-point_or_fault c =
    let i = c.loop-i.i in
    let o = c.is_on_curve.result in
    let x = get_or c.args.xs.now i (pos 0) in
    let y = get_or c.args.ys.now i (pos 0) in
    let count = on_count c.args.on.now in
    let less : i < length (on_curve c.args.on.now) = omega (arith, count) in
    let ho : o ≡ get_or (on_curve c.args.on.now) i false = c.is_on_curve.ensures ∙ sym (get_or-map (λ f. has_flag f 1) c.args.on.now i 0 false (omega arith)) in
    let kl : to_z w64 (of_z w64 c.args.left) ≡ c.args.left = kept c.args.left c.requires.left in
    let kx : to_z w64 (of_z w64 x) ≡ x = near x (c.requires.xs i (pos 0) (omega arith)) in
    let ky : to_z w64 (of_z w64 y) ≡ y = near y (c.requires.ys i (pos 0) (omega arith)) in
    let e = ap (λ l. point_or_fault l o (to_z w64 (of_z w64 x)) (to_z w64 (of_z w64 y))) kl ∙ ap (λ z. point_or_fault c.args.left o z (to_z w64 (of_z w64 y))) kx ∙ ap (λ z. point_or_fault c.args.left o x z) ky in
    let h : point_or_fault c.args.left o x y ≡ Err c.in_err-point_or_fault.field-0.0 = sym e ∙ sym c.point_or_fault.ensures ∙ c.in_err-point_or_fault.was in
    let p = err_from_is_err_and c.from_residual-in_err-point_or_fault.result c.from_residual-in_err-point_or_fault.ensures.1 in
    let cut = points_cut c.args.left (on_curve c.args.on.now) c.args.xs.now c.args.ys.now i c.loop-i.points.items o x y c.in_err-point_or_fault.field-0.0 less (c.requires.many_xs ∙ sym count) (c.requires.many_ys ∙ sym count) ho refl refl h in
    rw (p.1, p.2) (fails _ (points_or_fault c.args.left (on_curve c.args.on.now) c.args.xs.now c.args.ys.now) (cc (cut, kl, c.loop-i.invariant.value)))
