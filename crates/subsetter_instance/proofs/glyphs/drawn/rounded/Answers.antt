use Rattle.std.proofs.Common.{◌≡◌, ◌∙◌, ◌≤◌, ◌^◌, ◌-ℤ◌, ℕ, ℤ, List, Bool, Option, Result, Ok, Err, w64, to_z, of_z, unsigned_abs, refl, ap, sym, arith, length, subst}
use Rattle.std.specs.Prelude.{All}
use Rattle.std.proofs.lemmas.Result.{err_from_is_err_and}
use Rattle.subsetter_base.specs.Bytes.{◌>>=◌}
use Rattle.subsetter_base.specs.Gives.{Gives}
use Rattle.subsetter_base.specs.declared.error.Error.{Error}
use Rattle.subsetter_points.specs.declared.outline.Point.{Point}
use Rattle.subsetter_sfnt.specs.declared.fields.hmtx.LongHorMetric.{LongHorMetric}
use Rattle.subsetter_instance.specs.Source.{Source}
use Rattle.subsetter_instance.specs.Glyphs.Drawn.{Drawn, advance, drawn_if_fit, points_or_fault, rounded}
use Rattle.subsetter_instance.specs.Glyphs.Known.{IsKnown}
use Rattle.subsetter_instance.specs.Glyphs.Unfolded.{Unfolded, on_curve}
use Rattle.subsetter_instance.proofs.GlyphsLaws.Glyphs.{fails_in}
use Rattle.subsetter_instance.proofs.GlyphsLaws.Points.{fails}
use Rattle.subsetter_instance.proofs.GlyphsLaws.Reach.{kept, on_count}
use Rattle.subsetter_instance.proofs.glyphs.drawn.rounded.Goals as goal

gives : (r read : Result Drawn Error) → read ≡ r → Gives (λ (d : Drawn). d) r read
gives (Ok d) read h = h
gives (Err e) read h = fails e read h

side : (z w : ℤ) → z ≡ w → unsigned_abs w ≤ 2 ^ 58 → to_z w64 (of_z w64 z) ≡ w
side z w same h = kept z (omega (arith, ap unsigned_abs same, h)) ∙ same

advanced : (s : Source) (at : List ℤ) (g : ℕ) (m : LongHorMetric) (u : Unfolded) (hv : Option (List ℕ)) (d l r : ℤ) (ra : Result ℕ Error) → hv ≡ s.hvar → d ≡ r -ℤ l → r ≡ u.right → l ≡ u.left → unsigned_abs d ≤ 2 ^ 59 → ra ≡ advance hv at g m.advance_width (to_z w64 (of_z w64 d)) → ra ≡ advance s.hvar at g m.advance_width (u.right -ℤ u.left)
advanced s at g m u hv d l r ra hvar is right left bound h =
    let z : to_z w64 (of_z w64 d) ≡ d = kept d (omega (arith, bound)) in
    cc (hvar, is, right, left, h, z)

abbrev rest : Unfolded → ℕ → Result Drawn Error
rest u width = points_or_fault u.left u.on u.xs u.ys >>= λ points. drawn_if_fit u.ends points width

after_advance : (s : Source) (at : List ℤ) (g : ℕ) (m : LongHorMetric) (u : Unfolded) (ra : Result ℕ Error) → ra ≡ advance s.hvar at g m.advance_width (u.right -ℤ u.left) → (ra >>= λ width. rest u width) ≡ rounded s at g m u
unfolding rounded
after_advance s at g m u ra h = ap (λ (q : Result ℕ Error). q >>= λ width. rest u width) h

after_points : (u : Unfolded) (l : ℤ) (on : List Bool) (xs ys : List ℤ) (width : ℕ) → l ≡ u.left → on ≡ u.on → xs ≡ u.xs → ys ≡ u.ys → (points_or_fault l on xs ys >>= λ points. drawn_if_fit u.ends points width) ≡ rest u width
after_points u l on xs ys width hl ho hx hy =
    let same : points_or_fault l on xs ys ≡ points_or_fault u.left u.on u.xs u.ys = cc (hl, ho, hx, hy) in
    ap (λ (q : Result (List Point) Error). q >>= λ points. drawn_if_fit u.ends points width) same

pub returns-in_err-advance : goal.returns-in_err-advance
returns-in_err-advance c =
    let u = c.args.unfolded in
    let p = err_from_is_err_and c.from_residual.result c.from_residual.ensures.1 in
    let right = side c.unfolded.inside.right u.right (ap (λ (v : Unfolded). v.right) c.unfolded.view_is) c.requires.reach.shape.right in
    let left = side c.unfolded.inside.left u.left (ap (λ (v : Unfolded). v.left) c.unfolded.view_is) c.requires.reach.shape.left in
    let a = advanced c.args.source.now c.args.at.now c.args.glyph c.args.metric u _ _ _ _ _ c.hvar-hvar.ensures c.distance-width.ensures.value right left c.distance-width.ensures.bound c.in_err-advance.ensures in
    rw (p.1, p.2) (fails c.in_err-advance.field-0.0 _ (sym (after_advance c.args.source.now c.args.at.now c.args.glyph c.args.metric u _ a)))

pub returns-in_err-points : goal.returns-in_err-points
returns-in_err-points c =
    let u = c.args.unfolded in
    let p = err_from_is_err_and c.from_residual-in_err-points.result c.from_residual-in_err-points.ensures.1 in
    let right = side c.unfolded.inside.right u.right (ap (λ (v : Unfolded). v.right) c.unfolded.view_is) c.requires.reach.shape.right in
    let left = side c.unfolded.inside.left u.left (ap (λ (v : Unfolded). v.left) c.unfolded.view_is) c.requires.reach.shape.left in
    let a = advanced c.args.source.now c.args.at.now c.args.glyph c.args.metric u _ _ _ _ _ c.hvar-hvar.ensures c.distance-width.ensures.value right left c.distance-width.ensures.bound c.in_ok-advance.ensures in
    let on : on_curve c.deref.result.now ≡ u.on = ap on_curve c.deref.ensures.value ∙ ap (λ (v : Unfolded). v.on) c.unfolded.view_is in
    let xs = c.deref-2.ensures.value ∙ ap (λ (v : Unfolded). v.xs) c.unfolded.view_is in
    let ys = c.deref-3.ensures.value ∙ ap (λ (v : Unfolded). v.ys) c.unfolded.view_is in
    let whole = after_points u _ _ _ _ c.in_ok-advance.advance left on xs ys ∙ after_advance c.args.source.now c.args.at.now c.args.glyph c.args.metric u _ a in
    rw (p.1, p.2) (fails_in (λ (q : Result (List Point) Error). q >>= λ points. drawn_if_fit u.ends points c.in_ok-advance.advance) _ _ c.in_err-points.field-0.0 (λ d. refl) whole c.in_err-points.ensures)

pub returns : goal.returns
returns c =
    let u = c.args.unfolded in
    let right = side c.unfolded.inside.right u.right (ap (λ (v : Unfolded). v.right) c.unfolded.view_is) c.requires.reach.shape.right in
    let left = side c.unfolded.inside.left u.left (ap (λ (v : Unfolded). v.left) c.unfolded.view_is) c.requires.reach.shape.left in
    let a = advanced c.args.source.now c.args.at.now c.args.glyph c.args.metric u _ _ _ _ _ c.hvar-hvar.ensures c.distance-width.ensures.value right left c.distance-width.ensures.bound c.in_ok-advance.ensures in
    let on : on_curve c.deref.result.now ≡ u.on = ap on_curve c.deref.ensures.value ∙ ap (λ (v : Unfolded). v.on) c.unfolded.view_is in
    let xs = c.deref-2.ensures.value ∙ ap (λ (v : Unfolded). v.xs) c.unfolded.view_is in
    let ys = c.deref-3.ensures.value ∙ ap (λ (v : Unfolded). v.ys) c.unfolded.view_is in
    let whole = after_points u _ _ _ _ c.in_ok-advance.advance left on xs ys ∙ after_advance c.args.source.now c.args.at.now c.args.glyph c.args.metric u _ a in
    let points = c.in_ok-points.points.items in
    let ends : c.unfolded.inside.ends.items ≡ u.ends = ap (λ (v : Unfolded). v.ends) c.unfolded.view_is in
    let drawn = ap (λ (l : List ℕ). drawn_if_fit l points c.in_ok-advance.advance) ends in
    gives c.drawn_if_fit.result _ (sym whole ∙ ap (λ (q : Result (List Point) Error). q >>= λ ps. drawn_if_fit u.ends ps c.in_ok-advance.advance) c.in_ok-points.ensures ∙ sym drawn ∙ sym c.drawn_if_fit.ensures)

within : (xs ys : List ℤ) → xs ≡ ys → All (λ v. unsigned_abs v ≤ 2 ^ 45) ys → All (λ v. unsigned_abs v ≤ 2 ^ 45) xs
within xs ys same h = subst (λ (l : List ℤ). All (λ v. unsigned_abs v ≤ 2 ^ 45) l) (sym same) h

wide : (z : ℤ) → unsigned_abs z ≤ 2 ^ 59 → unsigned_abs (to_z w64 (of_z w64 z)) ≤ 2 ^ 59
wide z h = omega (arith, h, ap unsigned_abs (kept z (omega (arith, h))))

pub advance_by-requires : goal.advance_by-requires
advance_by-requires c = record {
  width = wide c.distance-width.result c.distance-width.ensures.bound;
  known = subst (λ (h : Option (List ℕ)). IsKnown h c.args.at.now c.args.glyph c.args.known) (sym c.hvar-hvar.ensures) c.requires.known;
}

pub points_or_fault-requires : goal.points_or_fault-requires
points_or_fault-requires c =
    let u = c.args.unfolded in
    let reach = c.requires.reach in
    let left = side c.unfolded.inside.left u.left (ap (λ (v : Unfolded). v.left) c.unfolded.view_is) reach.shape.left in
    let on : on_curve c.deref.result.now ≡ u.on = ap on_curve c.deref.ensures.value ∙ ap (λ (v : Unfolded). v.on) c.unfolded.view_is in
    let flags : length u.on ≡ length c.deref.result.now = sym (ap length on) ∙ on_count c.deref.result.now in
    let xs : c.deref-2.result.now ≡ u.xs = c.deref-2.ensures.value ∙ ap (λ (v : Unfolded). v.xs) c.unfolded.view_is in
    let ys : c.deref-3.result.now ≡ u.ys = c.deref-3.ensures.value ∙ ap (λ (v : Unfolded). v.ys) c.unfolded.view_is in
    record {
      left = omega (arith, ap unsigned_abs left, reach.shape.left);
      many_xs = ap length xs ∙ reach.shape.xs ∙ flags;
      many_ys = ap length ys ∙ reach.shape.ys ∙ flags;
      xs = within _ u.xs xs reach.xs;
      ys = within _ u.ys ys reach.ys;
    }
