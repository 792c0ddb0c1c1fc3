-- A composite glyph isn't read, nor are its components joined, exactly where it has a fault.
use Rattle.std.proofs.Common.{◌≡◌, ℕ, zero, suc, ◌+◌, ◌<◌, ◌≤◌, Bool, true, false, cond, List, [], ◌∷◌, ◌++◌, length, Option, Some, Result, Ok, Err, ℤ, pos, refl, sym, ap, subst, ◌∙◌, inl, inr, ◌⊎◌, arith}
use Rattle.std.specs.Prelude.{◌-ℤ◌, nat_lt, slice_index_or}
use Rattle.std.specs.Option.{ok_or}
use Rattle.std.proofs.lemmas.Bool.{ltb-false, ltb-true}
use Rattle.subsetter_base.specs.Bytes.{◌>>=◌, has_flag}
use Rattle.subsetter_base.specs.declared.error.Error.{Error}
use Rattle.subsetter_base.specs.declared.error.Error.TheVariants.{MalformedFont, Unimplemented, OverflowError}
use Rattle.subsetter_base.proofs.Results.{done, failed_is, bind_ok, bind_err, named_ok, named_err}
use Rattle.subsetter_points.specs.Simple.{after}
use Rattle.subsetter_variation.specs.Glyphs.Movement.{spent}
use Rattle.subsetter_variation.proofs.GlyphsLaws.GvarFaults.{following, after_error, after_named, after_missing, spent_refused, too_few}
use Rattle.subsetter_instance.specs.declared.glyphs.components.Arguments.{Arguments}
use Rattle.subsetter_instance.specs.declared.glyphs.components.Arguments.TheVariants.{Offset, Points}
use Rattle.subsetter_instance.specs.declared.glyphs.components.Component.{Component}
use Rattle.subsetter_sfnt.specs.declared.fields.hmtx.LongHorMetric.{LongHorMetric}
use Rattle.subsetter_instance.specs.Glyphs.Components.{component_at, components_at}
use Rattle.subsetter_instance.specs.Source.{Source}
use Rattle.subsetter_instance.specs.Glyphs.Unfolded.{Child, Composite, Unfolded, composite, is_scaled, joined, joined_or_fault, joined_parts, left_point, matched, moved, in_range_or_fault, placed, point_at, right_point, shift_by, shifted, transformed_xs, transformed_ys, with_component, with_part}
use Rattle.subsetter_instance.specs.Faults.WalkFault.{HasComponentFault, HasCompositeFault, HasPlacingFault, default_offsets, cut_component, far_component, few_steps_for_glyph, in_components, in_offset_variations, later_component, many_points, no_child, no_header, no_parent, no_step, scaled_offset}
use Rattle.subsetter_instance.proofs.FaultLaws.WalkLaws.Simple.{variation_fault, variation_stops, far_refused, far_stops, near_is, near_answer}

-- ---- components as they are read

abbrev in_front : Component → List Component × ℕ → Result (List Component × ℕ) Error
in_front c more = Ok (c ∷ more.0, more.1)

abbrev alone : Component → ℕ → Result (List Component × ℕ) Error
alone c steps = Ok (c ∷ [], steps)

abbrev next : ℕ → Component × List ℕ → Result (List Component × ℕ) Error
next k c = cond (has_flag c.0.flags 0x0020) (components_at k c.1 >>= in_front c.0) (alone c.0 k)

components_refused : (steps : ℕ) (rest : List ℕ) (e : Error) → components_at steps rest ≡ Err e → HasComponentFault steps rest e
unfolding components_at
components_refused zero rest e h = subst (HasComponentFault zero rest) (failed_is {A = List Component × ℕ} OverflowError e h) (no_step rest)
components_refused (suc steps) rest e h =
    elim (bind_err (ok_or (component_at rest) MalformedFont) (next steps) e h) [
      | inl k ↦ let f = named_err (component_at rest) MalformedFont e k in subst (HasComponentFault (suc steps) rest) f.1 (cut_component steps rest f.0)
      | inr k ↦ by (λ r. components_refused steps r e) k.0 (named_ok (component_at rest) MalformedFont k.0 k.1) (has_flag k.0.0.flags 0x0020) refl k.2
    ]
  where
    by : ((r : List ℕ) → components_at steps r ≡ Err e → HasComponentFault steps r e) → (c : Component × List ℕ) → component_at rest ≡ Some c → (b : Bool) → has_flag c.0.flags 0x0020 ≡ b
        → cond b (components_at steps c.1 >>= in_front c.0) (alone c.0 steps) ≡ Err e → HasComponentFault (suc steps) rest e
    by deeper c is false t k = absurd cc
    by deeper c is true t k = elim (bind_err (components_at steps c.1) (in_front c.0) e k) [
      | inl l ↦ later_component steps rest c is t (deeper c.1 l)
      | inr l ↦ let z = l.2 in absurd cc
    ]

components_stop : (steps : ℕ) (rest : List ℕ) (e : Error) → HasComponentFault steps rest e → components_at steps rest ≡ Err e
unfolding components_at
components_stop _ _ _ (no_step rest) = refl
components_stop _ _ _ (cut_component steps rest none) = after_missing (component_at rest) MalformedFont (next steps) none
components_stop _ _ e (later_component steps rest c is more f) =
    after_named (component_at rest) MalformedFont (next steps) c is
    ∙ ap (λ b. cond b (components_at steps c.1 >>= in_front c.0) (alone c.0 steps)) more
    ∙ after_error (components_at steps c.1) (in_front c.0) e (components_stop steps c.1 e f)

-- ---- a composite glyph before its components

module _ (s : Source) (at : List ℤ) (steps g : ℕ) (bytes : List ℕ) (m : LongHorMetric) where
  abbrev made : List Component → List ℤ × List ℤ × ℕ → Result Composite Error
  made cs to = Ok (record { components = cs; xs = to.0; ys = to.1; left = left_point bytes m (length cs) to.0; right = right_point bytes m (length cs) to.0; steps = to.2 })

  abbrev offset_by : List Component × ℕ → Result Composite Error
  offset_by cs = moved s.gvar g (default_offsets cs.0) at cs.1 >>= made cs.0

  abbrev body_read : ℕ → List ℕ → Result Composite Error
  body_read left body = components_at left body >>= offset_by

  abbrev header_read : ℕ → Result Composite Error
  header_read left = ok_or (after 10 bytes) MalformedFont >>= body_read left

  pub composite_refused : (e : Error) → composite s at steps g bytes m ≡ Err e → HasCompositeFault s at steps g bytes e
  unfolding composite
  composite_refused e h =
      elim (bind_err (spent 5 steps) header_read e h) [
        | inl k ↦ let f = spent_refused 5 steps e k in subst (HasCompositeFault s at steps g bytes) f.1 (few_steps_for_glyph f.0)
        | inr k ↦ elim (bind_err (ok_or (after 10 bytes) MalformedFont) (body_read k.0) e k.2) [
          | inl l ↦ let f = named_err (after 10 bytes) MalformedFont e l in subst (HasCompositeFault s at steps g bytes) f.1 (no_header k.0 k.1 f.0)
          | inr l ↦ elim (bind_err (components_at k.0 l.0) offset_by e l.2) [
            | inl n ↦ in_components k.0 l.0 k.1 (named_ok (after 10 bytes) MalformedFont l.0 l.1) (components_refused k.0 l.0 e n)
            | inr n ↦ elim (bind_err (moved s.gvar g (default_offsets n.0.0) at n.0.1) (made n.0.0) e n.2) [
              | inl v ↦ let f = variation_fault s.gvar g (default_offsets n.0.0) at n.0.1 e v in in_offset_variations k.0 l.0 n.0 f.0 k.1 (named_ok (after 10 bytes) MalformedFont l.0 l.1) n.1 f.1 f.2
              | inr v ↦ let z = v.2 in absurd cc
            ]
          ]
        ]
      ]

  pub composite_stops : (e : Error) → HasCompositeFault s at steps g bytes e → composite s at steps g bytes m ≡ Err e
  unfolding composite
  composite_stops _ (few_steps_for_glyph few) = after_error (spent 5 steps) header_read OverflowError (too_few 5 steps few)
  composite_stops _ (no_header left took none) = following (spent 5 steps) header_read left took ∙ after_missing (after 10 bytes) MalformedFont (body_read left) none
  composite_stops e (in_components left body took is f) =
      following (spent 5 steps) header_read left took ∙ after_named (after 10 bytes) MalformedFont (body_read left) body is ∙ after_error (components_at left body) offset_by e (components_stop left body e f)
  composite_stops e (in_offset_variations left body cs t took is cs_are varies f) =
      following (spent 5 steps) header_read left took ∙ after_named (after 10 bytes) MalformedFont (body_read left) body is ∙ following (components_at left body) offset_by cs cs_are
      ∙ after_error (moved s.gvar g (default_offsets cs.0) at cs.1) (made cs.0) e (variation_stops s.gvar t g (default_offsets cs.0) at cs.1 e varies f)

-- ---- a component where it is put

module _ (c : Component) (x y : ℤ) (before part : Unfolded) where
  abbrev Misplaced : Error → Type 0
  Misplaced e = HasPlacingFault c x y before part e

  abbrev by_shift : ℤ × ℤ → Result Unfolded Error
  by_shift by = Ok (record part { xs = shifted by.0 (transformed_xs c.matrix part.xs part.ys); ys = shifted by.1 (transformed_ys c.matrix part.xs part.ys) })

  abbrev parent_point : ℕ → Option (ℤ × ℤ)
  parent_point n = point_at before.xs before.ys n

  abbrev child_point : ℕ → Option (ℤ × ℤ)
  child_point n = point_at (transformed_xs c.matrix part.xs part.ys) (transformed_ys c.matrix part.xs part.ys) n

  shift_refused : (a : Arguments) (e : Error) → c.arguments ≡ a → shift_by a (is_scaled c.flags c.matrix) x y before (transformed_xs c.matrix part.xs part.ys) (transformed_ys c.matrix part.xs part.ys) ≡ Err e → HasPlacingFault c x y before part e
  unfolding matched
  shift_refused (Offset a b) e is h = by (is_scaled c.flags c.matrix) refl h
    where
      by : (t : Bool) → is_scaled c.flags c.matrix ≡ t → cond t (Err Unimplemented) (done {A = ℤ × ℤ} (x, y)) ≡ Err e → HasPlacingFault c x y before part e
      by true t k = subst (HasPlacingFault c x y before part) (failed_is {A = ℤ × ℤ} Unimplemented e k) (scaled_offset a b is t)
      by false t k = absurd cc
  shift_refused (Points parent child) e is h =
      elim (bind_err (ok_or (parent_point parent) MalformedFont) (λ p. ok_or (child_point child) MalformedFont >>= λ q. Ok (p.0 -ℤ q.0, p.1 -ℤ q.1)) e h) [
        | inl k ↦ let f = named_err (parent_point parent) MalformedFont e k in subst (HasPlacingFault c x y before part) f.1 (no_parent parent child is f.0)
        | inr k ↦ elim (bind_err (ok_or (child_point child) MalformedFont) (λ q. Ok (k.0.0 -ℤ q.0, k.0.1 -ℤ q.1)) e k.2) [
          | inl l ↦ let f = named_err (child_point child) MalformedFont e l in subst (HasPlacingFault c x y before part) f.1 (no_child parent child k.0 is (named_ok (parent_point parent) MalformedFont k.0 k.1) f.0)
          | inr l ↦ let z = l.2 in absurd cc
        ]
      ]

  placing_refused : (e : Error) → placed c x y before part ≡ Err e → HasPlacingFault c x y before part e
  unfolding placed
  placing_refused e h =
      elim (bind_err (shift_by c.arguments (is_scaled c.flags c.matrix) x y before (transformed_xs c.matrix part.xs part.ys) (transformed_ys c.matrix part.xs part.ys)) by_shift e h) [
        | inl k ↦ shift_refused c.arguments e refl k
        | inr k ↦ let z = k.2 in absurd cc
      ]

  many_refused : (p : Unfolded) (steps : ℕ) (e : Error) → joined_or_fault before p steps ≡ Err e → (65536 ≤ length before.on + length p.on) × (OverflowError ≡ e)
  many_refused p steps e h = by (nat_lt (length before.on + length p.on) 65536) refl h
    where
      by : (b : Bool) → nat_lt (length before.on + length p.on) 65536 ≡ b → cond b (done {A = Unfolded × ℕ} (joined_parts before p, steps)) (Err OverflowError) ≡ Err e → (65536 ≤ length before.on + length p.on) × (OverflowError ≡ e)
      by true t k = absurd cc
      by false t k = (ltb-false (length before.on + length p.on) 65536 t, failed_is {A = Unfolded × ℕ} OverflowError e k)

  pub part_refused : (steps : ℕ) (e : Error) → with_part c x y before part steps ≡ Err e → HasPlacingFault c x y before part e
  unfolding with_part
  part_refused steps e h =
      elim (bind_err (placed c x y before part) (λ p. in_range_or_fault p steps >>= λ near. joined_or_fault before near.0 near.1) e h) [
        | inl k ↦ placing_refused e k
        | inr k ↦ elim (bind_err (in_range_or_fault k.0 steps) (λ near. joined_or_fault before near.0 near.1) e k.2) [
          | inl l ↦ let f = far_refused k.0 steps e l in subst (HasPlacingFault c x y before part) f.1 (far_component k.0 k.1 f.0)
          | inr l ↦
              let near = near_answer k.0 steps l.0 l.1 in
              let same : l.0 ≡ (k.0, steps) = cc in
              let f = many_refused k.0 steps e (ap (λ (r : Unfolded × ℕ). joined_or_fault before r.0 r.1) (sym same) ∙ l.2) in
              subst (HasPlacingFault c x y before part) f.1 (many_points k.0 k.1 near.0 f.0)
        ]
      ]

  many_stop : (b : Bool) (p : Unfolded) (steps : ℕ) → nat_lt (length before.on + length p.on) 65536 ≡ b → 65536 ≤ length before.on + length p.on → cond b (done {A = Unfolded × ℕ} (joined_parts before p, steps)) (Err OverflowError) ≡ Err OverflowError
  many_stop true p steps t h = let lt : length before.on + length p.on < 65536 = ltb-true (length before.on + length p.on) 65536 t in absurd (omega arith)
  many_stop false p steps t h = refl

  shift_stops : (a : Arguments) → c.arguments ≡ a → (e : Error) → shift_by a (is_scaled c.flags c.matrix) x y before (transformed_xs c.matrix part.xs part.ys) (transformed_ys c.matrix part.xs part.ys) ≡ Err e → placed c x y before part ≡ Err e
  unfolding placed
  shift_stops a is e h =
      after_error (shift_by c.arguments (is_scaled c.flags c.matrix) x y before (transformed_xs c.matrix part.xs part.ys) (transformed_ys c.matrix part.xs part.ys)) by_shift e
      (ap (λ k. shift_by k (is_scaled c.flags c.matrix) x y before (transformed_xs c.matrix part.xs part.ys) (transformed_ys c.matrix part.xs part.ys)) is ∙ h)

  pub part_stops : (steps : ℕ) (e : Error) → HasPlacingFault c x y before part e → with_part c x y before part steps ≡ Err e
  unfolding with_part matched
  part_stops steps _ (scaled_offset a b is t) =
      after_error (placed c x y before part) (λ p. in_range_or_fault p steps >>= λ near. joined_or_fault before near.0 near.1) Unimplemented
      (shift_stops (Offset a b) is Unimplemented (ap (λ k. cond k (Err Unimplemented) (done {A = ℤ × ℤ} (x, y))) t))
  part_stops steps _ (no_parent parent child is none) =
      after_error (placed c x y before part) (λ p. in_range_or_fault p steps >>= λ near. joined_or_fault before near.0 near.1) MalformedFont
      (shift_stops (Points parent child) is MalformedFont (after_missing (parent_point parent) MalformedFont (λ p. ok_or (child_point child) MalformedFont >>= λ q. Ok (p.0 -ℤ q.0, p.1 -ℤ q.1)) none))
  part_stops steps _ (no_child parent child p is there none) =
      after_error (placed c x y before part) (λ p. in_range_or_fault p steps >>= λ near. joined_or_fault before near.0 near.1) MalformedFont
      (shift_stops (Points parent child) is MalformedFont
      (after_named (parent_point parent) MalformedFont (λ p. ok_or (child_point child) MalformedFont >>= λ q. Ok (p.0 -ℤ q.0, p.1 -ℤ q.1)) p there ∙ after_missing (child_point child) MalformedFont (λ q. Ok (p.0 -ℤ q.0, p.1 -ℤ q.1)) none))
  part_stops steps _ (far_component p is far) =
      following (placed c x y before part) (λ p. in_range_or_fault p steps >>= λ near. joined_or_fault before near.0 near.1) p is ∙ after_error (in_range_or_fault p steps) (λ near. joined_or_fault before near.0 near.1) OverflowError (far_stops p steps far)
  part_stops steps _ (many_points p is near many) =
      following (placed c x y before part) (λ p. in_range_or_fault p steps >>= λ near. joined_or_fault before near.0 near.1) p is ∙ following (in_range_or_fault p steps) (λ near. joined_or_fault before near.0 near.1) (p, steps) (near_is p steps near)
      ∙ many_stop (nat_lt (length before.on + length p.on) 65536) p steps refl many

-- ---- one component after the other

abbrev pub joined_next : Child → Component → List Component → ℕ → List ℤ → List ℤ → Unfolded × ℕ → Unfolded × ℕ → Result (Unfolded × ℕ) Error
joined_next child c cs k xs ys all part = with_component c (slice_index_or xs k (pos 0)) (slice_index_or ys k (pos 0)) all.0 part.0 part.1 >>= joined child cs (k + 1) xs ys

-- a component stops them: its glyph, or where it is put
pub record StopsAt (child : Child) (cs : List Component) (k : ℕ) (xs ys : List ℤ) (all : Unfolded × ℕ) (e : Error) : Type 0 where
  pub before : List Component
  pub component : Component
  pub more : List Component
  pub are : cs ≡ before ++ component ∷ more
  pub to : Unfolded × ℕ
  pub to_is : joined child before k xs ys all ≡ Ok to
  pub index : ℕ
  pub index_is : index ≡ k + length before
  pub why : (child to.1 component.glyph ≡ Err e) ⊎ ((part : Unfolded × ℕ) × (child to.1 component.glyph ≡ Ok part) × (with_component component (slice_index_or xs index (pos 0)) (slice_index_or ys index (pos 0)) to.0 part.0 part.1 ≡ Err e))

pub joined_refused : (child : Child) (cs : List Component) (k : ℕ) (xs ys : List ℤ) (all : Unfolded × ℕ) (e : Error) → joined child cs k xs ys all ≡ Err e → StopsAt child cs k xs ys all e
unfolding joined
joined_refused child [] k xs ys all e h = absurd cc
joined_refused child (c ∷ cs) k xs ys all e h =
    elim (bind_err (child all.1 c.glyph) (joined_next child c cs k xs ys all) e h) [
      | inl l ↦ record { before = []; component = c; more = cs; are = refl; to = all; to_is = refl; index = k; index_is = omega arith; why = inl l }
      | inr l ↦ elim (bind_err (with_component c (slice_index_or xs k (pos 0)) (slice_index_or ys k (pos 0)) all.0 l.0.0 l.0.1) (joined child cs (k + 1) xs ys) e l.2) [
        | inl n ↦ record { before = []; component = c; more = cs; are = refl; to = all; to_is = refl; index = k; index_is = omega arith; why = inr (l.0, l.1, n) }
        | inr n ↦ deeper l.0 n.0 l.1 n.1 (joined_refused child cs (k + 1) xs ys n.0 e n.2)
      ]
    ]
  where
    deeper : (part on : Unfolded × ℕ) → child all.1 c.glyph ≡ Ok part → with_component c (slice_index_or xs k (pos 0)) (slice_index_or ys k (pos 0)) all.0 part.0 part.1 ≡ Ok on → StopsAt child cs (k + 1) xs ys on e → StopsAt child (c ∷ cs) k xs ys all e
    deeper part on part_is on_is t = record {
      before = c ∷ t.before;
      component = t.component;
      more = t.more;
      are = ap (λ l. c ∷ l) t.are;
      to = t.to;
      to_is = following (child all.1 c.glyph) (joined_next child c t.before k xs ys all) part part_is
          ∙ following (with_component c (slice_index_or xs k (pos 0)) (slice_index_or ys k (pos 0)) all.0 part.0 part.1) (joined child t.before (k + 1) xs ys) on on_is ∙ t.to_is;
      index = t.index;
      index_is = let is = t.index_is in omega arith;
      why = t.why;
    }

-- after the components that are put
pub joined_front : (child : Child) (before rest : List Component) (k : ℕ) (xs ys : List ℤ) (all to : Unfolded × ℕ) → joined child before k xs ys all ≡ Ok to → joined child (before ++ rest) k xs ys all ≡ joined child rest (k + length before) xs ys to
unfolding joined
joined_front child [] rest k xs ys all to h =
    let same : all ≡ to = cc in
    let none : k + 0 ≡ k = omega arith in
    ap (λ a. joined child rest k xs ys a) same ∙ ap (λ n. joined child rest n xs ys to) (sym none)
joined_front child (c ∷ before) rest k xs ys all to h =
    let a = bind_ok (child all.1 c.glyph) (joined_next child c before k xs ys all) to h in
    let b = bind_ok (with_component c (slice_index_or xs k (pos 0)) (slice_index_or ys k (pos 0)) all.0 a.0.0 a.0.1) (joined child before (k + 1) xs ys) to a.2 in
    let same : (k + 1) + length before ≡ k + length (c ∷ before) = omega arith in
    following (child all.1 c.glyph) (joined_next child c (before ++ rest) k xs ys all) a.0 a.1
    ∙ following (with_component c (slice_index_or xs k (pos 0)) (slice_index_or ys k (pos 0)) all.0 a.0.0 a.0.1) (joined child (before ++ rest) (k + 1) xs ys) b.0 b.1
    ∙ joined_front child before rest (k + 1) xs ys b.0 to b.2 ∙ ap (λ n. joined child rest n xs ys to) same
