-- Phantom points of a simple glyph that nothing moves, and its advance there.
--   left_phantom, right_phantom  after the points, both are moved by 0
use Rattle.std.proofs.Common.{◌≡◌, ℕ, suc, ◌+◌, ◌^◌, Bool, true, false, cond, List, [], ◌∷◌, ◌++◌, length, get_or, Option, Some, Result, Ok, Err, ℤ, pos, sym, ap, ◌∙◌, append_assoc, arith}
use Rattle.std.specs.Prelude.{◌+ℤ◌, ◌-ℤ◌, ◌*ℤ◌, slice_index_or}
use Rattle.std.specs.Option.{ok_or}
use Rattle.std.proofs.lemmas.Int.{ints}
use Rattle.std.proofs.lemmas.List.{get_or_at, length-append, length-map, map-append}
use Rattle.subsetter_base.specs.Bytes.{◌>>=◌}
use Rattle.subsetter_base.specs.declared.error.Error.{Error}
use Rattle.subsetter_base.specs.declared.error.Error.TheVariants.{MalformedFont, OverflowError}
use Rattle.subsetter_base.proofs.Options.{just_is}
use Rattle.subsetter_base.proofs.Results.{bind_ok, done_is, named_ok}
use Rattle.subsetter_points.specs.declared.outline.Point.{Point}
use Rattle.subsetter_points.specs.Simple.{parts, parts_fit, xs_of, ys_of}
use Rattle.subsetter_variation.specs.Glyphs.Movement.{spent}
use Rattle.subsetter_variation.specs.Glyphs.Varied.{in_units}
use Rattle.subsetter_variation.proofs.ItemsLaws.Items.{nearest_is}
use Rattle.subsetter_sfnt.specs.declared.fields.hmtx.LongHorMetric.{LongHorMetric}
use Rattle.subsetter_instance.specs.Glyphs.Drawn.{Drawn, advance, advance_or_fault, bearing, drawn_if_fit, points_or_fault, rounded, whole}
use Rattle.subsetter_instance.specs.MetricLaws.{IsSimpleAdvanceAtDefault}
use Rattle.subsetter_instance.specs.Source.{Source, metric}
use Rattle.subsetter_instance.specs.Glyphs.Unfolded.{Unfolded, counted_description, is_composite, left_point, left_side, moved, in_range_or_fault, right_point, simple_outline, unfolded, unfolded_composite, unfolded_simple, with_phantoms}
use Rattle.subsetter_instance.proofs.Defaults.{drawn_parts, stays}
use Rattle.subsetter_instance.proofs.MetricLaws.{advance_is}
use Rattle.subsetter_instance.proofs.SameLaws.Simple.{near_is}

abbrev phantoms : List ℤ
phantoms = pos 0 ∷ pos 0 ∷ pos 0 ∷ pos 0 ∷ []

pub left_phantom : (vs : List ℤ) (n : ℕ) → length vs ≡ n → get_or (in_units (vs ++ pos 0 ∷ pos 0 ∷ pos 0 ∷ pos 0 ∷ [])) n (pos 0) ≡ pos 0
left_phantom vs n e =
    ap (λ (l : List ℤ). get_or l n (pos 0)) (map-append (λ v. pos (2 ^ 30) *ℤ v) vs phantoms) ∙ get_or_at (in_units vs) (pos 0) (pos 0 ∷ pos 0 ∷ pos 0 ∷ []) (pos 0) n (length-map vs (λ v. pos (2 ^ 30) *ℤ v) ∙ e)

pub right_phantom : (vs : List ℤ) (n : ℕ) → length vs ≡ n → get_or (in_units (vs ++ pos 0 ∷ pos 0 ∷ pos 0 ∷ pos 0 ∷ [])) (n + 1) (pos 0) ≡ pos 0
right_phantom vs n e =
    let us = in_units vs in
    let long : length (us ++ pos 0 ∷ []) ≡ n + 1 = omega (arith, length-append us (pos 0 ∷ []), length-map vs (λ v. pos (2 ^ 30) *ℤ v), e) in
    ap (λ (l : List ℤ). get_or l (n + 1) (pos 0)) (map-append (λ v. pos (2 ^ 30) *ℤ v) vs phantoms ∙ sym (append_assoc us (pos 0 ∷ []) (pos 0 ∷ pos 0 ∷ pos 0 ∷ []))) ∙ get_or_at (us ++ pos 0 ∷ []) (pos 0) (pos 0 ∷ pos 0 ∷ []) (pos 0) (n + 1) long

-- ---- the advance

-- of a simple glyph whose phantom points are moved by 0, the width between them
width_is : (side x y : ℤ) (n : ℕ) → x ≡ pos 0 → y ≡ pos 0 → (pos (2 ^ 30) *ℤ (side +ℤ pos n) +ℤ y) -ℤ (pos (2 ^ 30) *ℤ side +ℤ x) ≡ pos (2 ^ 30) *ℤ pos n
width_is side x y n e f = omega (arith, ints)

-- the advance that is drawn is the rounded one
fit_advance : (d : Drawn) (es : List ℕ) (ps : List Point) (n : ℕ) → drawn_if_fit es ps n ≡ Ok d → d.advance ≡ n
fit_advance d es ps n h = by (parts_fit es ps) h
  where
    by : (b : Bool) → cond b (Ok (record { ends = es; points = ps; advance = n; bearing = bearing ps })) (Err OverflowError) ≡ Ok d → d.advance ≡ n
    by true k = ap (λ (x : Drawn). x.advance) (sym (done_is (record { ends = es; points = ps; advance = n; bearing = bearing ps }) d k))
    by false k = absurd cc

rounded_advance : (s : Source) (at : List ℤ) (g : ℕ) (m : LongHorMetric) (u : Unfolded) (d : Drawn) → rounded s at g m u ≡ Ok d → advance s.hvar at g m.advance_width (u.right -ℤ u.left) ≡ Ok d.advance
unfolding rounded
rounded_advance s at g m u d h =
    let a = bind_ok (advance s.hvar at g m.advance_width (u.right -ℤ u.left)) (λ w. points_or_fault u.left u.on u.xs u.ys >>= λ ps. drawn_if_fit u.ends ps w) d h in
    let b = bind_ok (points_or_fault u.left u.on u.xs u.ys) (λ ps. drawn_if_fit u.ends ps a.0) d a.2 in
    a.1 ∙ ap (λ (n : ℕ). Ok n) (sym (fit_advance d u.ends b.0 a.0 b.2))

module _ (s : Source) (at : List ℤ) (g : ℕ) (bytes : List ℕ) (m : LongHorMetric) where
  abbrev outlined : List ℕ × List Point → List ℤ × List ℤ × ℕ → Result (Unfolded × ℕ) Error
  outlined o to = in_range_or_fault (simple_outline bytes m o.0 o.1 to.0 to.1) to.2

  abbrev move : List ℕ × List Point → ℕ → Result (Unfolded × ℕ) Error
  move o left = moved s.gvar g (with_phantoms o.0 (xs_of o.1) (ys_of o.1)) at left >>= outlined o

  abbrev by_kind : ℕ → ℕ → Bool → Result (Unfolded × ℕ) Error
  by_kind depth steps b = cond b (unfolded_composite (unfolded depth s at) s at steps g bytes m) (unfolded_simple s at steps g bytes m)

  -- nothing moves the phantom points
  abbrev AreStill : Type 0
  AreStill = (o : List ℕ × List Point) (left : ℕ) (to : List ℤ × List ℤ × ℕ) → moved s.gvar g (with_phantoms o.0 (xs_of o.1) (ys_of o.1)) at left ≡ Ok to → to.0 ≡ in_units (xs_of o.1 ++ pos 0 ∷ pos 0 ∷ pos 0 ∷ pos 0 ∷ [])

  simple_width : (steps : ℕ) (u : Unfolded × ℕ) → AreStill → unfolded_simple s at steps g bytes m ≡ Ok u → u.0.right -ℤ u.0.left ≡ pos (2 ^ 30) *ℤ pos m.advance_width
  unfolding unfolded_simple
  simple_width steps u still h =
      let a = bind_ok (ok_or (parts bytes) MalformedFont) (λ o. spent (length o.1 + 5) steps >>= move o) u h in
      let b = bind_ok (spent (length a.0.1 + 5) steps) (move a.0) u a.2 in
      let c = bind_ok (moved s.gvar g (with_phantoms a.0.0 (xs_of a.0.1) (ys_of a.0.1)) at b.0) (outlined a.0) u b.2 in
      let n = length a.0.1 in
      let xs = in_units (xs_of a.0.1 ++ pos 0 ∷ pos 0 ∷ pos 0 ∷ pos 0 ∷ []) in
      let is = still a.0 b.0 c.0 c.1 in
      let outline = near_is (simple_outline bytes m a.0.0 a.0.1 c.0.0 c.0.1) c.0.2 u c.2 in
      ap (λ (v : Unfolded). v.right -ℤ v.left) outline
      ∙ ap (λ (l : List ℤ). right_point bytes m n l -ℤ left_point bytes m n l) is
      ∙ width_is (left_side bytes m) (slice_index_or xs n (pos 0)) (slice_index_or xs (n + 1) (pos 0)) m.advance_width (left_phantom (xs_of a.0.1) n (length-map a.0.1 (λ p. p.x))) (right_phantom (xs_of a.0.1) n (length-map a.0.1 (λ p. p.x)))

  glyph_width : (depth steps : ℕ) (u : Unfolded × ℕ) → AreStill → counted_description s g ≡ Some bytes → metric s g ≡ Some m → is_composite bytes ≡ false → unfolded (suc depth) s at steps g ≡ Ok u → u.0.right -ℤ u.0.left ≡ pos (2 ^ 30) *ℤ pos m.advance_width
  unfolding unfolded
  glyph_width depth steps u still described measured simple h =
      let go = λ (b : List ℕ) (k : LongHorMetric). cond (is_composite b) (unfolded_composite (unfolded depth s at) s at steps g b k) (unfolded_simple s at steps g b k) in
      let a = bind_ok (ok_or (counted_description s g) MalformedFont) (λ b. ok_or (metric s g) MalformedFont >>= go b) u h in
      let c = bind_ok (ok_or (metric s g) MalformedFont) (go a.0) u a.2 in
      let x : a.0 ≡ bytes = just_is a.0 bytes (sym (named_ok (counted_description s g) MalformedFont a.0 a.1) ∙ described) in
      let y : c.0 ≡ m = just_is c.0 m (sym (named_ok (metric s g) MalformedFont c.0 c.1) ∙ measured) in
      simple_width steps u still (ap (by_kind depth steps) (sym simple) ∙ ap (go bytes) (sym y) ∙ ap (λ (b : List ℕ). go b c.0) (sym x) ∙ c.2)

pub is_simple_advance_at_default : IsSimpleAdvanceAtDefault
is_simple_advance_at_default s at steps g bytes m d zeros bound none described simple measured h =
    let p = drawn_parts s at steps g d h in
    let same : p.m ≡ m = just_is p.m m (sym p.m_is ∙ measured) in
    let width = glyph_width s at g bytes m 64 steps p.u (λ o left to moves. (stays s.gvar g (with_phantoms o.0 (xs_of o.1) (ys_of o.1)) at left to zeros (λ t is. bound t g (with_phantoms o.0 (xs_of o.1) (ys_of o.1)) is) moves).0) described measured simple p.u_is in
    let drawn_is = rounded_advance s at g p.m p.u.0 d p.d_is in
    let by_width : advance_or_fault (whole (pos (2 ^ 30) *ℤ pos m.advance_width)) ≡ Ok d.advance = ap (λ (v : ℤ). advance_or_fault (whole v)) (sym width) ∙ ap (λ (o : Option (List ℕ)). advance o at g p.m.advance_width (p.u.0.right -ℤ p.u.0.left)) (sym none) ∙ drawn_is in
    let is : pos d.advance ≡ pos m.advance_width = advance_is (pos m.advance_width) d.advance (omega (arith, ints)) (ap advance_or_fault (sym (nearest_is (pos m.advance_width))) ∙ by_width) in
    omega (arith, ints)
