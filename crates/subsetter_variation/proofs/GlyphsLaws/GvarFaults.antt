-- The points of a glyph don't move exactly where its variations have a fault.
--   spent_refused, too_few       steps that don't suffice
--   moving_refused, moving_stops an error is the name of a fault, and a fault is an error
use Rattle.std.proofs.Common.{◌≡◌, ℕ, zero, suc, ◌-◌, ◌<◌, ◌≤◌, Bool, true, false, cond, List, length, ◌==◌, if◌then◌else◌, Option, Some, None, Result, Ok, Err, ℤ, pos, refl, ap, subst, ◌∙◌, inl, inr, arith}
use Rattle.std.specs.Prelude.{nat_le}
use Rattle.std.specs.Option.{ok_or}
use Rattle.std.specs.Ordering.{int_eq}
use Rattle.std.proofs.lemmas.Bool.{leb-false, leb-true}
use Rattle.subsetter_base.specs.Bytes.{◌>>=◌}
use Rattle.subsetter_base.specs.declared.error.Error.{Error}
use Rattle.subsetter_base.specs.declared.error.Error.TheVariants.{MalformedFont, OverflowError}
use Rattle.subsetter_base.proofs.Results.{done, failed_is, bind_err, named_ok, named_err}
use Rattle.subsetter_variation.specs.Region.{scalar}
use Rattle.subsetter_variation.specs.Glyphs.Tuples.{Gvar, TupleHeader, TupleHeaders, next_header, tuple_of, tuple_headers, shared_numbers, variations_of}
use Rattle.subsetter_variation.specs.Glyphs.Movement.{Outline, Walk, counted_walk, moved_by, moved_in_bytes, moved_points, next_walk, scaled_walk, spent, start, walk_all}
use Rattle.subsetter_variation.specs.Glyphs.Varied.{in_units}
use Rattle.subsetter_variation.specs.Glyphs.GvarFault.{HasTupleFault, HasVariationFault, no_step, no_header, few_steps, no_deltas, later, no_variations, no_tuples, no_shared_numbers, in_tuple}

-- ---- steps

pub spent_refused : (n steps : ℕ) (e : Error) → spent n steps ≡ Err e → (steps < n) × (OverflowError ≡ e)
spent_refused n steps e h = by (nat_le n steps) refl h
  where
    by : (b : Bool) → nat_le n steps ≡ b → cond b (done (steps - n)) (Err OverflowError) ≡ Err e → (steps < n) × (OverflowError ≡ e)
    by true t k = absurd cc
    by false t k = (leb-false n steps t, failed_is {A = ℕ} OverflowError e k)

less_is : (b : Bool) (n steps : ℕ) → nat_le n steps ≡ b → steps < n → cond b (done (steps - n)) (Err OverflowError) ≡ Err OverflowError
less_is true n steps t h = let le : n ≤ steps = leb-true n steps t in absurd (omega arith)
less_is false n steps t h = refl

pub too_few : (n steps : ℕ) → steps < n → spent n steps ≡ Err OverflowError
too_few n steps h = less_is (nat_le n steps) n steps refl h

-- what comes after an answer, or a part that is missing
pub following : {A B : Type 0} (r : Result A Error) (f : A → Result B Error) (x : A) → r ≡ Ok x → (r >>= f) ≡ f x
following r f x h = ap (λ q. q >>= f) h

pub after_error : {A B : Type 0} (r : Result A Error) (f : A → Result B Error) (e : Error) → r ≡ Err e → (r >>= f) ≡ Err e
after_error r f e h = ap (λ q. q >>= f) h

pub after_named : {A B : Type 0} (o : Option A) (d : Error) (f : A → Result B Error) (x : A) → o ≡ Some x → (ok_or o d >>= f) ≡ f x
after_named o d f x h = ap (λ q. ok_or q d >>= f) h

pub after_missing : {A B : Type 0} (o : Option A) (d : Error) (f : A → Result B Error) → o ≡ None → (ok_or o d >>= f) ≡ Err d
after_missing o d f h = ap (λ q. ok_or q d >>= f) h

-- ---- tuples

module _ (t : Gvar) (o : Outline) (shared : Option (List ℕ)) (at : List ℤ) where
  moved_next : (left : ℕ) (w : Walk) (x : TupleHeader × TupleHeaders) → Result Walk Error
  moved_next left w x = scaled_walk o shared (scalar x.0.region at) x.0 (record w { steps = left; headers = x.1 })

  counted_refused : (n left : ℕ) (w : Walk) (x : TupleHeader × TupleHeaders) (e : Error) → spent 1 w.steps ≡ Ok left → next_header t w.headers ≡ Some x → int_eq (scalar x.0.region at) (pos 0) ≡ false
      → counted_walk o shared (scalar x.0.region at) x.0 (record w { steps = left; headers = x.1 }) ≡ Err e → HasTupleFault t o shared at (suc n) w e
  unfolding counted_walk
  counted_refused n left w x e took is counts h =
      let v : Walk = record w { steps = left; headers = x.1 } in
      elim (bind_err (spent (length o.xs) left) (λ more. ok_or (tuple_of (length o.xs) shared x.0) MalformedFont >>= λ d. Ok (moved_by o (scalar x.0.region at) d.numbers d.dx d.dy more v)) e h) [
        | inl k ↦ let f = spent_refused (length o.xs) left e k in subst (HasTupleFault t o shared at (suc n) w) f.1 (few_steps n left w x.0 x.1 took is counts f.0)
        | inr k ↦ elim (bind_err (ok_or (tuple_of (length o.xs) shared x.0) MalformedFont) (λ d. Ok (moved_by o (scalar x.0.region at) d.numbers d.dx d.dy k.0 v)) e k.2) [
          | inl l ↦ let f = named_err (tuple_of (length o.xs) shared x.0) MalformedFont e l in subst (HasTupleFault t o shared at (suc n) w) f.1 (no_deltas n left k.0 w x.0 x.1 took is counts k.1 f.0)
          | inr l ↦ let z = l.2 in absurd cc
        ]
      ]

  scaled_refused : (n left : ℕ) (w : Walk) (x : TupleHeader × TupleHeaders) (e : Error) → spent 1 w.steps ≡ Ok left → next_header t w.headers ≡ Some x → scaled_walk o shared (scalar x.0.region at) x.0 (record w { steps = left; headers = x.1 }) ≡ Err e
      → HasTupleFault t o shared at (suc n) w e
  scaled_refused n left w x e took is h = by (int_eq (scalar x.0.region at) (pos 0)) refl h
    where
      v : Walk
      v = record w { steps = left; headers = x.1 }

      by : (b : Bool) → int_eq (scalar x.0.region at) (pos 0) ≡ b → cond b (Ok (record w { steps = left; headers = x.1 })) (counted_walk o shared (scalar x.0.region at) x.0 (record w { steps = left; headers = x.1 })) ≡ Err e → HasTupleFault t o shared at (suc n) w e
      by true counts k = absurd cc
      by false counts k = counted_refused n left w x e took is counts k

  next_refused : (n : ℕ) (w : Walk) (e : Error) → next_walk t o shared at w ≡ Err e → HasTupleFault t o shared at (suc n) w e
  unfolding next_walk
  next_refused n w e h =
      elim (bind_err (spent 1 w.steps) (λ left. ok_or (next_header t w.headers) MalformedFont >>= λ x. scaled_walk o shared (scalar x.0.region at) x.0 (record w { steps = left; headers = x.1 })) e h) [
        | inl k ↦ let f = spent_refused 1 w.steps e k in subst (HasTupleFault t o shared at (suc n) w) f.1 (no_step n w f.0)
        | inr k ↦ elim (bind_err (ok_or (next_header t w.headers) MalformedFont) (λ x. scaled_walk o shared (scalar x.0.region at) x.0 (record w { steps = k.0; headers = x.1 })) e k.2) [
          | inl l ↦ let f = named_err (next_header t w.headers) MalformedFont e l in subst (HasTupleFault t o shared at (suc n) w) f.1 (no_header n k.0 w k.1 f.0)
          | inr l ↦ scaled_refused n k.0 w l.0 e k.1 (named_ok (next_header t w.headers) MalformedFont l.0 l.1) l.2
        ]
      ]

  pub tuples_refused : (n : ℕ) (w : Walk) (e : Error) → walk_all t o shared at n w ≡ Err e → HasTupleFault t o shared at n w e
  tuples_refused zero w e h = absurd cc
  tuples_refused (suc n) w e h = elim (bind_err (next_walk t o shared at w) (walk_all t o shared at n) e h) [
    | inl k ↦ next_refused n w e k
    | inr k ↦ later n w k.0 k.1 (tuples_refused n k.0 e k.2)
  ]

  counted_stops : (left : ℕ) (w : Walk) (h : TupleHeader) (rest : TupleHeaders) (e : Error) → spent 1 w.steps ≡ Ok left → next_header t w.headers ≡ Some (h, rest) → int_eq (scalar h.region at) (pos 0) ≡ false
      → counted_walk o shared (scalar h.region at) h (record w { steps = left; headers = rest }) ≡ Err e → next_walk t o shared at w ≡ Err e
  unfolding next_walk
  counted_stops left w h rest e took is counts stops =
      following (spent 1 w.steps) (λ left. ok_or (next_header t w.headers) MalformedFont >>= λ x. scaled_walk o shared (scalar x.0.region at) x.0 (record w { steps = left; headers = x.1 })) left took
      ∙ after_named (next_header t w.headers) MalformedFont (λ x. scaled_walk o shared (scalar x.0.region at) x.0 (record w { steps = left; headers = x.1 })) (h, rest) is
      ∙ ap (λ b. cond b (done (record w { steps = left; headers = rest })) (counted_walk o shared (scalar h.region at) h (record w { steps = left; headers = rest }))) counts
      ∙ stops

  -- a fault stops the walk over the tuples
  pub tuples_stop : (n : ℕ) (w : Walk) (e : Error) → HasTupleFault t o shared at n w e → walk_all t o shared at n w ≡ Err e
  unfolding next_walk counted_walk
  tuples_stop _ _ _ (no_step n w few) =
      after_error (next_walk t o shared at w) (walk_all t o shared at n) OverflowError
      (after_error (spent 1 w.steps) (λ left. ok_or (next_header t w.headers) MalformedFont >>= λ x. scaled_walk o shared (scalar x.0.region at) x.0 (record w { steps = left; headers = x.1 })) OverflowError (too_few 1 w.steps few))
  tuples_stop _ _ _ (no_header n left w took none) =
      after_error (next_walk t o shared at w) (walk_all t o shared at n) MalformedFont
      (following (spent 1 w.steps) (λ left. ok_or (next_header t w.headers) MalformedFont >>= λ x. scaled_walk o shared (scalar x.0.region at) x.0 (record w { steps = left; headers = x.1 })) left took
      ∙ after_missing (next_header t w.headers) MalformedFont (λ x. scaled_walk o shared (scalar x.0.region at) x.0 (record w { steps = left; headers = x.1 })) none)
  tuples_stop _ _ _ (few_steps n left w h rest took is counts few) =
      after_error (next_walk t o shared at w) (walk_all t o shared at n) OverflowError
      (counted_stops left w h rest OverflowError took is counts
      (after_error (spent (length o.xs) left) (λ more. ok_or (tuple_of (length o.xs) shared h) MalformedFont >>= λ d. Ok (moved_by o (scalar h.region at) d.numbers d.dx d.dy more (record w { steps = left; headers = rest }))) OverflowError (too_few (length o.xs) left few)))
  tuples_stop _ _ _ (no_deltas n left more w h rest took is counts took_more none) =
      after_error (next_walk t o shared at w) (walk_all t o shared at n) MalformedFont
      (counted_stops left w h rest MalformedFont took is counts
      (following (spent (length o.xs) left) (λ more. ok_or (tuple_of (length o.xs) shared h) MalformedFont >>= λ d. Ok (moved_by o (scalar h.region at) d.numbers d.dx d.dy more (record w { steps = left; headers = rest }))) more took_more
      ∙ after_missing (tuple_of (length o.xs) shared h) MalformedFont (λ d. Ok (moved_by o (scalar h.region at) d.numbers d.dx d.dy more (record w { steps = left; headers = rest }))) none))
  tuples_stop _ _ e (later n w v is f) = following (next_walk t o shared at w) (walk_all t o shared at n) v is ∙ tuples_stop n v e f

-- ---- all variations of a glyph

module _ (t : Gvar) (g : ℕ) (o : Outline) (at : List ℤ) (steps : ℕ) where
  last : Walk → Result (List ℤ × List ℤ × ℕ) Error
  last w = Ok (w.xs, w.ys, w.steps)

  abbrev walked : Option (List ℕ) × TupleHeaders → Result (List ℤ × List ℤ × ℕ) Error
  walked s = walk_all t o s.0 at s.1.left (start o steps s.1) >>= λ w. Ok (w.xs, w.ys, w.steps)

  abbrev sharing : Bool × TupleHeaders → Result (List ℤ × List ℤ × ℕ) Error
  sharing all = ok_or (shared_numbers (length o.xs) all.0 all.1) MalformedFont >>= walked

  abbrev by_length : List ℕ → Result (List ℤ × List ℤ × ℕ) Error
  by_length bytes = if length bytes == 0 then Ok (in_units o.xs, in_units o.ys, steps) else moved_in_bytes t o at steps bytes

  in_bytes_refused : (bytes : List ℕ) (e : Error) → variations_of t g ≡ Some bytes → (length bytes == 0) ≡ false → moved_in_bytes t o at steps bytes ≡ Err e → HasVariationFault t g o at steps e
  unfolding moved_in_bytes
  in_bytes_refused bytes e is some h =
      elim (bind_err (ok_or (tuple_headers bytes) MalformedFont) sharing e h) [
        | inl k ↦ let f = named_err (tuple_headers bytes) MalformedFont e k in subst (HasVariationFault t g o at steps) f.1 (no_tuples bytes is some f.0)
        | inr k ↦ elim (bind_err (ok_or (shared_numbers (length o.xs) k.0.0 k.0.1) MalformedFont) walked e k.2) [
          | inl l ↦ let f = named_err (shared_numbers (length o.xs) k.0.0 k.0.1) MalformedFont e l in subst (HasVariationFault t g o at steps) f.1 (no_shared_numbers bytes k.0 is some (named_ok (tuple_headers bytes) MalformedFont k.0 k.1) f.0)
          | inr l ↦ elim (bind_err (walk_all t o l.0.0 at l.0.1.left (start o steps l.0.1)) (λ w. Ok (w.xs, w.ys, w.steps)) e l.2) [
            | inl m ↦ in_tuple bytes k.0 l.0 is some (named_ok (tuple_headers bytes) MalformedFont k.0 k.1) (named_ok (shared_numbers (length o.xs) k.0.0 k.0.1) MalformedFont l.0 l.1) (tuples_refused t o l.0.0 at l.0.1.left (start o steps l.0.1) e m)
            | inr m ↦ let z = m.2 in absurd cc
          ]
        ]
      ]

  pub moving_refused : (e : Error) → moved_points t g o at steps ≡ Err e → HasVariationFault t g o at steps e
  unfolding moved_points
  moving_refused e h =
      elim (bind_err (ok_or (variations_of t g) MalformedFont) by_length e h) [
        | inl k ↦ let f = named_err (variations_of t g) MalformedFont e k in subst (HasVariationFault t g o at steps) f.1 (no_variations f.0)
        | inr k ↦ by k.0 (named_ok (variations_of t g) MalformedFont k.0 k.1) (length k.0 == 0) refl k.2
      ]
    where
      by : (bytes : List ℕ) → variations_of t g ≡ Some bytes → (b : Bool) → (length bytes == 0) ≡ b → cond b (Ok (in_units o.xs, in_units o.ys, steps)) (moved_in_bytes t o at steps bytes) ≡ Err e → HasVariationFault t g o at steps e
      by bytes is true some k = absurd cc
      by bytes is false some k = in_bytes_refused bytes e is some k

  in_bytes_stop : (bytes : List ℕ) (e : Error) → variations_of t g ≡ Some bytes → (length bytes == 0) ≡ false → moved_in_bytes t o at steps bytes ≡ Err e → moved_points t g o at steps ≡ Err e
  unfolding moved_points
  in_bytes_stop bytes e is some h =
      after_named (variations_of t g) MalformedFont by_length bytes is
      ∙ ap (λ b. cond b (done (in_units o.xs, in_units o.ys, steps)) (moved_in_bytes t o at steps bytes)) some
      ∙ h

  -- a fault stops the points
  pub moving_stops : (e : Error) → HasVariationFault t g o at steps e → moved_points t g o at steps ≡ Err e
  unfolding moved_points moved_in_bytes
  moving_stops _ (no_variations none) = after_missing (variations_of t g) MalformedFont by_length none
  moving_stops _ (no_tuples bytes is some none) = in_bytes_stop bytes MalformedFont is some (after_missing (tuple_headers bytes) MalformedFont sharing none)
  moving_stops _ (no_shared_numbers bytes all is some all_is none) =
      in_bytes_stop bytes MalformedFont is some (after_named (tuple_headers bytes) MalformedFont sharing all all_is ∙ after_missing (shared_numbers (length o.xs) all.0 all.1) MalformedFont walked none)
  moving_stops e (in_tuple bytes all shared is some all_is shared_is f) =
      in_bytes_stop bytes e is some
      (after_named (tuple_headers bytes) MalformedFont sharing all all_is
      ∙ after_named (shared_numbers (length o.xs) all.0 all.1) MalformedFont walked shared shared_is
      ∙ after_error (walk_all t o shared.0 at shared.1.left (start o steps shared.1)) (λ w. Ok (w.xs, w.ys, w.steps)) e (tuples_stop t o shared.0 at shared.1.left (start o steps shared.1) e f))
