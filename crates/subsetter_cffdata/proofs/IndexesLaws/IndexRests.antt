-- The entries before the first that can't be read, one by one.
use Rattle.std.proofs.Common.{◌≡◌, ℕ, zero, suc, ◌+◌, ◌≤◌, List, [], ◌∷◌, length, drop, Option, Some, None, refl, ap, arith}
use Rattle.std.specs.Prelude.{slice_get}
use Rattle.std.specs.Option.{option_and_then}
use Rattle.std.proofs.lemmas.List.{drop_all}
use Rattle.std.proofs.lemmas.Option.{same_Some}
use Rattle.subsetter_cffdata.specs.Indexes.Index.{readable}

readable_next : (es : List (Option (List ℕ))) (i : ℕ) (x : List ℕ) → option_and_then (λ (e : Option (List ℕ)). e) (slice_get es i) ≡ Some x → readable (drop i es) ≡ x ∷ readable (drop (suc i) es)
readable_next [] i x e = absurd cc
readable_next (None ∷ es) zero x e = absurd cc
readable_next (Some y ∷ es) zero x e = ap (λ (z : List ℕ). z ∷ readable es) (same_Some _ _ e)
readable_next (y ∷ es) (suc i) x e = readable_next es i x e

pub readable_some : (es : List (Option (List ℕ))) (i : ℕ) (x : List ℕ) → option_and_then (λ (e : Option (List ℕ)). e) (slice_get es i) ≡ Some x → readable (drop i es) ≡ x ∷ readable (drop (i + 1) es)
readable_some es i x e = let next : i + 1 ≡ suc i = omega arith in rw next (readable_next es i x e)

pub readable_none : (es : List (Option (List ℕ))) (i : ℕ) → option_and_then (λ (e : Option (List ℕ)). e) (slice_get es i) ≡ None → readable (drop i es) ≡ []
readable_none [] zero e = refl
readable_none [] (suc i) e = refl
readable_none (None ∷ es) zero e = refl
readable_none (Some y ∷ es) zero e = absurd cc
readable_none (y ∷ es) (suc i) e = readable_none es i e

pub readable_end : (es : List (Option (List ℕ))) (n : ℕ) → length es ≤ n → readable (drop n es) ≡ []
readable_end es n le = ap readable (drop_all n es le)
