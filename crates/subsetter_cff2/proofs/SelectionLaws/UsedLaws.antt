-- The font dicts that are used, ascending.
use Rattle.std.proofs.Common.{◌≡◌, ℕ, zero, suc, ◌+◌, ◌<◌, ◌≤◌, Bool, false, cond, List, ◌∷◌, length, get_or, Option, Ok, Err, refl, ap, arith, ◌∙◌, sym}
use Rattle.std.specs.List.{filter, range_with_len}
use Rattle.std.specs.Option.{option_map}
use Rattle.std.proofs.lemmas.Bool.{lt-ltb, le-ltb}
use Rattle.subsetter_base.specs.declared.error.Error.TheVariants.{OverflowError}
use Rattle.subsetter_base.specs.Indexes.{is_listed}
use Rattle.subsetter_cff2.specs.Selection.UsedDicts.{used_dicts, counted_dicts}

-- ---- the same numbers by either test
same_step : (b c : Bool) (i : ℕ) (xs ys : List ℕ) → b ≡ c → xs ≡ ys → cond b (i ∷ xs) xs ≡ cond c (i ∷ ys) ys
same_step b c i xs ys p q = rw (p, q) refl

same_numbers : (p q : ℕ → Bool) (k n : ℕ) → ((i : ℕ) → k ≤ i → i < k + n → p i ≡ q i) → filter p (range_with_len k n) ≡ filter q (range_with_len k n)
same_numbers p q k zero h = refl
same_numbers p q k (suc n) h = same_step (p k) (q k) k _ _ (h k (omega arith) (omega arith)) (same_numbers p q (k + 1) n (λ i a b. h i (omega arith) (omega arith)))

pub used_are : (numbers found : List ℕ) (used : List Bool) (bound : ℕ) → length used ≡ bound → ((i : ℕ) → i < bound → get_or used i false ≡ is_listed numbers i)
    → found ≡ filter (λ i. get_or used i false) (range_with_len 0 (length used)) → found ≡ used_dicts bound numbers
unfolding used_dicts
used_are numbers found used bound len h e =
    e ∙ ap (λ (n : ℕ). filter (λ i. get_or used i false) (range_with_len 0 n)) len ∙ same_numbers (λ i. get_or used i false) (is_listed numbers) 0 bound (λ i a b. h i (omega arith))

pub counted : (bound : ℕ) (numbers found : List ℕ) → found ≡ used_dicts bound numbers → length found ≤ 255 → counted_dicts bound numbers ≡ Ok found
unfolding counted_dicts
counted bound numbers found e few = rw (lt-ltb (length (used_dicts bound numbers)) 256 (omega (arith, few, ap length e))) (ap Ok (sym e))

pub too_many : (bound : ℕ) (numbers found : List ℕ) → found ≡ used_dicts bound numbers → 255 < length found → counted_dicts bound numbers ≡ Err OverflowError
unfolding counted_dicts
too_many bound numbers found e many = rw (le-ltb (length (used_dicts bound numbers)) 256 (omega (arith, many, ap length e))) refl

-- ---- places
abbrev pub from : ℕ → Option ℕ → Option ℕ
from i o = option_map (λ (j : ℕ). i + j) o
