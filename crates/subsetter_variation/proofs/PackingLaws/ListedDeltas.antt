-- The delta that is listed for a point, one number further.
use Rattle.std.specs.List.{range_with_len}
use Rattle.std.proofs.lemmas.List.FromFn.{map-range_with_len_more}
use Rattle.std.proofs.Common.{map, slice_get, ◌++◌, ◌≡◌, ◌≢◌, ℕ, ◌+◌, ◌<◌, ◌≤◌, List, [], ◌∷◌, length, get_or, drop, Option, Some, None, ℤ, pos, Bool, true, false, nat_eq, cond, refl, ap, ◌∙◌, sym, inl, inr, arith, slice_set, get_or-set_other}
use Rattle.std.proofs.lemmas.List.{drop_more, drop_all, set_past}
use Rattle.std.proofs.lemmas.Bool.{cases_lt, eqb-true, eqb-false, ne_eqb}
use Rattle.std.proofs.lemmas.Grind.{get_or-set_at}
use Rattle.subsetter_variation.specs.Glyphs.Varied.{delta_of, listed_delta}

pub listed_more : (found : Option ℤ) (numbers : List ℕ) (deltas : List ℤ) (i k : ℕ) → i < length numbers → i < length deltas → listed_delta found (drop i numbers) (drop i deltas) k ≡ listed_delta (cond (nat_eq (get_or numbers i 0) k) (Some (get_or deltas i (pos 0))) found) (drop (i + 1) numbers) (drop (i + 1) deltas) k
listed_more found numbers deltas i k a b = ap (λ ns. listed_delta found ns (drop i deltas) k) (drop_more numbers i 0 a) ∙ ap (λ ds. listed_delta found (get_or numbers i 0 ∷ drop (i + 1) numbers) ds k) (drop_more deltas i (pos 0) b)

no_numbers : (found : Option ℤ) (deltas : List ℤ) (k : ℕ) → listed_delta found [] deltas k ≡ found
no_numbers found deltas k = refl

no_deltas : (found : Option ℤ) (numbers : List ℕ) (k : ℕ) → listed_delta found numbers [] k ≡ found
no_deltas found [] k = refl
no_deltas found (n ∷ numbers) k = refl

pub listed_end : (found : Option ℤ) (numbers : List ℕ) (deltas : List ℤ) (i k : ℕ) → length deltas ≤ i → listed_delta found (drop i numbers) (drop i deltas) k ≡ found
listed_end found numbers deltas i k b = ap (λ ds. listed_delta found (drop i numbers) ds k) (drop_all i deltas b) ∙ no_deltas found (drop i numbers) k

pub listed_end_numbers : (found : Option ℤ) (numbers : List ℕ) (deltas : List ℤ) (i k : ℕ) → length numbers ≤ i → listed_delta found (drop i numbers) (drop i deltas) k ≡ found
listed_end_numbers found numbers deltas i k a = ap (λ ns. listed_delta found ns (drop i deltas) k) (drop_all i numbers a)

set_at : (b : Bool) (xs : List (Option ℤ)) (number : ℕ) (d : ℤ) (k : ℕ) → number < length xs → nat_eq number k ≡ b → get_or (slice_set xs number (Some d)) k None ≡ cond b (Some d) (get_or xs k None)
set_at true xs number d k lt e = let same : k ≡ number = sym (eqb-true number k e) in get_or-set_at xs number k (Some d) None same lt
set_at false xs number d k lt e = let other : k ≢ number = (λ h. eqb-false number k e (sym h)) in get_or-set_other xs number k (Some d) None other

-- the deltas after one was listed
pub set_step : (xs ys : List (Option ℤ)) (number : ℕ) (d : ℤ) (k : ℕ) → k < length xs → ys ≡ slice_set xs number (Some d) → get_or ys k None ≡ cond (nat_eq number k) (Some d) (get_or xs k None)
set_step xs ys number d k lt e = elim (cases_lt number (length xs)) [
  | inl h ↦ ap (λ zs. get_or zs k None) e ∙ set_at (nat_eq number k) xs number d k h refl
  | inr h ↦ ap (λ zs. get_or zs k None) (e ∙ set_past xs number (Some d) h) ∙ sym (ap (λ b. cond b (Some d) (get_or xs k None)) (ne_eqb number k (λ q. omega arith)))
]

-- the deltas of all points, one more
pub all_more : (xs : List (Option ℤ)) (deltas : List ℤ) (k : ℕ) (x : Option ℤ) → xs ≡ map (delta_of None deltas) (range_with_len 0 k) → x ≡ slice_get deltas k → xs ++ x ∷ [] ≡ map (delta_of None deltas) (range_with_len 0 (k + 1))
all_more xs deltas k x e f = ap (λ ys. ys ++ x ∷ []) e ∙ ap (λ y. map (delta_of None deltas) (range_with_len 0 k) ++ y ∷ []) f ∙ sym (map-range_with_len_more (delta_of None deltas) 0 k k (omega arith))
