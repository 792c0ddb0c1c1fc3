-- An advance and rounded points are refused exactly where they have a fault.
use Rattle.std.proofs.Common.{◌≡◌, ℕ, ◌≤◌, ◌^◌, Bool, true, false, cond, List, [], ◌∷◌, Option, Some, None, Result, Ok, Err, ℤ, pos, refl, ap, subst, ◌∙◌, inl, inr, ◌⊎◌, arith}
use Rattle.std.specs.Prelude.{◌&&◌, ◌+ℤ◌, ◌-ℤ◌, int_le, nat_lt, unsigned_abs}
use Rattle.std.proofs.lemmas.Bool.{ltb-false, ltb-true}
use Rattle.subsetter_base.specs.Bytes.{◌>>=◌}
use Rattle.subsetter_base.specs.declared.error.Error.{Error}
use Rattle.subsetter_base.specs.declared.error.Error.TheVariants.{MalformedFont, OverflowError}
use Rattle.subsetter_base.proofs.Results.{done, failed_is, bind_err}
use Rattle.subsetter_points.specs.declared.outline.Point.{Point}
use Rattle.subsetter_points.specs.Simple.{has_16_bits}
use Rattle.subsetter_variation.specs.Nearest.{nearest}
use Rattle.subsetter_variation.specs.Items.ItemVariations.{in_whole_units, whole_or_fault}
use Rattle.subsetter_variation.specs.Items.Advances.{advance_delta}
use Rattle.subsetter_variation.proofs.GlyphsLaws.GvarFaults.{following, after_error}
use Rattle.subsetter_instance.specs.Glyphs.Drawn.{advance, advance_or_fault, point_or_fault, points_or_fault, whole}
use Rattle.subsetter_instance.proofs.FaultLaws.ItemLaws.Hvar.{hvar_refused, hvar_clean}
use Rattle.subsetter_instance.specs.Faults.RoundedFault.{HasAdvanceFault, HasPointOutOfRange, IsWide, in_hvar, large_item, wide_by_item, wide, far_first, far_later}

-- ---- advances

wide_refused : (v : ℤ) (e : Error) → advance_or_fault v ≡ Err e → IsWide v × (OverflowError ≡ e)
wide_refused v e h = by (int_le v (pos 0)) (nat_lt (unsigned_abs v) (2 ^ 16)) h
  where
    by : (a b : Bool) → cond a (done {A = ℕ} 0) (cond b (done {A = ℕ} (unsigned_abs v)) (Err OverflowError)) ≡ Err e → ((a ≡ false) × (b ≡ false)) × (OverflowError ≡ e)
    by true b k = absurd cc
    by false true k = absurd cc
    by false false k = ((refl, refl), failed_is {A = ℕ} OverflowError e k)

wide_stops : (v : ℤ) → IsWide v → advance_or_fault v ≡ Err OverflowError
wide_stops v h =
    ap (λ b. cond b (done {A = ℕ} 0) (cond (nat_lt (unsigned_abs v) (2 ^ 16)) (done {A = ℕ} (unsigned_abs v)) (Err OverflowError))) h.0
    ∙ ap (λ b. cond b (done {A = ℕ} (unsigned_abs v)) (Err OverflowError)) h.1

pub large_refused : (d : ℤ) (e : Error) → in_whole_units d ≡ Err e → (2 ^ 62 ≤ unsigned_abs d) × (OverflowError ≡ e)
large_refused d e h = by (nat_lt (unsigned_abs d) (2 ^ 62)) refl h
  where
    by : (b : Bool) → nat_lt (unsigned_abs d) (2 ^ 62) ≡ b → cond b (done {A = ℤ} (nearest d (2 ^ 30))) (Err OverflowError) ≡ Err e → (2 ^ 62 ≤ unsigned_abs d) × (OverflowError ≡ e)
    by true t k = absurd cc
    by false t k = (ltb-false (unsigned_abs d) (2 ^ 62) t, failed_is {A = ℤ} OverflowError e k)

large_is : (d : ℤ) (b : Bool) → nat_lt (unsigned_abs d) (2 ^ 62) ≡ b → 2 ^ 62 ≤ unsigned_abs d → cond b (done {A = ℤ} (nearest d (2 ^ 30))) (Err OverflowError) ≡ Err OverflowError
large_is d true t h = let lt = ltb-true (unsigned_abs d) (2 ^ 62) t in absurd (omega arith)
large_is d false t h = refl

pub large_stops : (d : ℤ) → 2 ^ 62 ≤ unsigned_abs d → in_whole_units d ≡ Err OverflowError
large_stops d large = large_is d (nat_lt (unsigned_abs d) (2 ^ 62)) refl large

item_refused : (bytes : List ℕ) (at : List ℤ) (g before : ℕ) (width : ℤ) (o : Option ℤ) (e : Error) → advance_delta bytes at g ≡ o → whole_or_fault o ≡ Err e → HasAdvanceFault (Some bytes) at g before width e
item_refused bytes at g before width None e is h = subst (HasAdvanceFault (Some bytes) at g before width) (failed_is {A = ℤ} MalformedFont e h) (in_hvar bytes refl (hvar_refused bytes at g is))
item_refused bytes at g before width (Some d) e is h = let f = large_refused d e h in subst (HasAdvanceFault (Some bytes) at g before width) f.1 (large_item bytes d refl is f.0)

pub advance_refused : (hvar : Option (List ℕ)) (at : List ℤ) (g before : ℕ) (width : ℤ) (e : Error) → advance hvar at g before width ≡ Err e → HasAdvanceFault hvar at g before width e
advance_refused None at g before width e h = let f = wide_refused (whole width) e h in subst (HasAdvanceFault None at g before width) f.1 (wide refl f.0)
advance_refused (Some bytes) at g before width e h =
    elim (bind_err (whole_or_fault (advance_delta bytes at g)) (λ d. advance_or_fault (pos before +ℤ d)) e h) [
      | inl k ↦ item_refused bytes at g before width (advance_delta bytes at g) e refl k
      | inr k ↦ let f = wide_refused (pos before +ℤ k.0) e k.2 in subst (HasAdvanceFault (Some bytes) at g before width) f.1 (wide_by_item bytes k.0 refl k.1 f.0)
    ]

pub advance_stops : (hvar : Option (List ℕ)) (at : List ℤ) (g before : ℕ) (width : ℤ) (e : Error) → HasAdvanceFault hvar at g before width e → advance hvar at g before width ≡ Err e
advance_stops hvar at g before width _ (in_hvar bytes is f) =
    ap (λ h. advance h at g before width) is ∙ ap (λ o. whole_or_fault o >>= λ d. advance_or_fault (pos before +ℤ d)) (missing (advance_delta bytes at g) refl)
  where
    missing : (o : Option ℤ) → advance_delta bytes at g ≡ o → o ≡ None
    missing None is = refl
    missing (Some d) is = absurd (hvar_clean bytes at g d is f)
advance_stops hvar at g before width _ (large_item bytes d is there large) =
    ap (λ h. advance h at g before width) is ∙ ap (λ o. whole_or_fault o >>= λ d. advance_or_fault (pos before +ℤ d)) there
    ∙ after_error (in_whole_units d) (λ d. advance_or_fault (pos before +ℤ d)) OverflowError (large_stops d large)
advance_stops hvar at g before width _ (wide_by_item bytes d is there h) =
    ap (λ h. advance h at g before width) is ∙ following (whole_or_fault (advance_delta bytes at g)) (λ d. advance_or_fault (pos before +ℤ d)) d there ∙ wide_stops (pos before +ℤ d) h
advance_stops hvar at g before width _ (wide is h) = ap (λ h. advance h at g before width) is ∙ wide_stops (whole width) h

-- ---- points

abbrev both : Bool → Bool → ℤ → ℤ → Bool → Result Point Error
both a b x y on = cond a (done {A = ℤ} x) (Err OverflowError) >>= λ across. cond b (done {A = ℤ} y) (Err OverflowError) >>= λ up. Ok (record { x = across; y = up; on_curve = on })

both_refused : (a b : Bool) (x y : ℤ) (on : Bool) (e : Error) → both a b x y on ≡ Err e → ((a && b) ≡ false) × (OverflowError ≡ e)
both_refused true true x y on e h = absurd cc
both_refused true false x y on e h = (refl, failed_is {A = Point} OverflowError e h)
both_refused false b x y on e h = (refl, failed_is {A = Point} OverflowError e h)

both_stop : (a b : Bool) (x y : ℤ) (on : Bool) → (a && b) ≡ false → both a b x y on ≡ Err OverflowError
both_stop true true x y on h = absurd cc
both_stop true false x y on h = refl
both_stop false b x y on h = refl

-- a point is answered, or refused for one reason
both_or : (a b : Bool) (x y : ℤ) (on : Bool) → ((p : Point) × (both a b x y on ≡ Ok p)) ⊎ (both a b x y on ≡ Err OverflowError)
both_or true true x y on = inl (record { x = x; y = y; on_curve = on }, refl)
both_or true false x y on = inr refl
both_or false b x y on = inr refl

pub points_refused : (left : ℤ) (on : List Bool) (xs ys : List ℤ) (e : Error) → points_or_fault left on xs ys ≡ Err e → HasPointOutOfRange left on xs ys × (OverflowError ≡ e)
unfolding points_or_fault
points_refused left [] xs ys e h = absurd cc
points_refused left (on ∷ more) [] ys e h = absurd cc
points_refused left (on ∷ more) (x ∷ xs) [] e h = absurd cc
points_refused left (on ∷ more) (x ∷ xs) (y ∷ ys) e h =
    elim (bind_err (point_or_fault left on x y) (λ p. points_or_fault left more xs ys >>= λ rest. Ok (p ∷ rest)) e h) [
      | inl k ↦ let f = both_refused (has_16_bits (whole (x -ℤ left))) (has_16_bits (whole y)) (whole (x -ℤ left)) (whole y) on e k in (far_first on more x y xs ys f.0, f.1)
      | inr k ↦ later k.0 (λ r. points_refused left more xs ys e r) (bind_err (points_or_fault left more xs ys) (λ rest. Ok (k.0 ∷ rest)) e k.2)
    ]
  where
    later : (p : Point) → (points_or_fault left more xs ys ≡ Err e → HasPointOutOfRange left more xs ys × (OverflowError ≡ e)) → (points_or_fault left more xs ys ≡ Err e) ⊎ ((rest : List Point) × (points_or_fault left more xs ys ≡ Ok rest) × (Ok (p ∷ rest) ≡ Err e))
        → HasPointOutOfRange left (on ∷ more) (x ∷ xs) (y ∷ ys) × (OverflowError ≡ e)
    later p deeper (inl k) = let f = deeper k in (far_later on more x y xs ys f.0, f.1)
    later p deeper (inr k) = let z = k.2 in absurd cc

pub points_stop : (left : ℤ) (on : List Bool) (xs ys : List ℤ) → HasPointOutOfRange left on xs ys → points_or_fault left on xs ys ≡ Err OverflowError
unfolding points_or_fault
points_stop left _ _ _ (far_first on more x y xs ys h) =
    after_error (point_or_fault left on x y) (λ p. points_or_fault left more xs ys >>= λ rest. Ok (p ∷ rest)) OverflowError (both_stop (has_16_bits (whole (x -ℤ left))) (has_16_bits (whole y)) (whole (x -ℤ left)) (whole y) on h)
points_stop left _ _ _ (far_later on more x y xs ys f) =
    elim (both_or (has_16_bits (whole (x -ℤ left))) (has_16_bits (whole y)) (whole (x -ℤ left)) (whole y) on) [
      | inl k ↦ following (point_or_fault left on x y) (λ p. points_or_fault left more xs ys >>= λ rest. Ok (p ∷ rest)) k.0 k.1 ∙ after_error (points_or_fault left more xs ys) (λ rest. Ok (k.0 ∷ rest)) OverflowError (points_stop left more xs ys f)
      | inr k ↦ after_error (point_or_fault left on x y) (λ p. points_or_fault left more xs ys >>= λ rest. Ok (p ∷ rest)) OverflowError k
    ]
