-- The scalars that are kept.
use Rattle.std.proofs.Common.{◌≡◌, ℕ, zero, suc, ◌+◌, ◌<◌, ◌≤◌, arith, refl, ℤ, pos, List, [], ◌∷◌, ◌++◌, length, get_or, take, Option, Some, None, sym, ap, ◌∙◌}
use Rattle.std.specs.Prelude.{unwrap_or}
use Rattle.std.proofs.lemmas.Option.{slice_get_past}
use Rattle.subsetter_base.specs.Options.{◌>>=◌}
use Rattle.subsetter_variation.specs.Items.ItemVariations.{data_regions}
use Rattle.subsetter_cff2.specs.Kept.{known}
use Rattle.subsetter_cff2.specs.Variation.{Variation, data_scalars}
use Rattle.std.specs.Option.{option_map}
use Rattle.std.proofs.lemmas.List.{take_more}
use Rattle.subsetter_blend.specs.Runs.Blend.{scalars_in}

pub count_of : (o : Option (List ℤ)) (c : Option ℕ) → c ≡ option_map (λ (l : List ℤ). length l) o → unwrap_or c 0 ≡ length (scalars_in o)
count_of None c e = ap (λ (x : Option ℕ). unwrap_or x 0) e
count_of (Some l) c e = ap (λ (x : Option ℕ). unwrap_or x 0) e

pub kept_next : (xs ys ss : List ℤ) (k : ℕ) (x : ℤ) → k < length ss → xs ≡ take k ss → x ≡ get_or ss k (pos 0) → ys ≡ xs ++ x ∷ [] → ys ≡ take (k + 1) ss
kept_next xs ys ss k x less same is more =
    more ∙ ap (λ (l : List ℤ). l ++ x ∷ []) same ∙ ap (λ (z : ℤ). take k ss ++ z ∷ []) is ∙ sym (take_more ss k (pos 0) less)

-- ---- the counts of all item variation data
pub known_before : (xs : List (Option ℕ)) (x : Option ℕ) (k : ℕ) → k < length xs → known (xs ++ x ∷ []) k ≡ known xs k
known_before [] x k less = absurd (omega arith)
known_before (y ∷ xs) x zero less = refl
known_before (y ∷ xs) x (suc k) less = known_before xs x k (omega arith)

pub known_last : (xs : List (Option ℕ)) (x : Option ℕ) (k : ℕ) → length xs ≡ k → known (xs ++ x ∷ []) k ≡ x
known_last [] x zero e = refl
known_last [] x (suc k) e = absurd (omega (arith, e))
known_last (y ∷ xs) x zero e = absurd (omega (arith, e))
known_last (y ∷ xs) x (suc k) e = known_last xs x k (omega (arith, e))

pub known_past : (xs : List (Option ℕ)) (k : ℕ) → length xs ≤ k → known xs k ≡ None
known_past xs k le = ap (λ (o : Option (Option ℕ)). o >>= λ count. count) (slice_get_past xs k le)

pub none_there : (v : Variation) (outer : ℕ) → data_regions v.store outer ≡ None → option_map (λ (l : List ℤ). length l) (data_scalars v outer) ≡ None
unfolding data_scalars
none_there v outer e = rw e refl
