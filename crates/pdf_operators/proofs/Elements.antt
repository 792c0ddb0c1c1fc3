-- A fact of each element of a list.
use Rattle.std.proofs.Common.{ℕ, ◌+◌, ◌<◌, ◌≤◌, List, length, get_or, drop, sym, subst}
use Rattle.std.specs.Prelude.{All}
use Rattle.std.proofs.lemmas.List.{drop_all, drop_more}
use Rattle.std.proofs.lemmas.List.Elements.{All-nil, All-cons}

module _ {X : Type 0} (P : X → Type 0) where
  pub All-more : (xs : List X) (k : ℕ) (e : X) → k < length xs → P (get_or xs k e) → (All P (drop k xs) → All P xs) → All P (drop (k + 1) xs) → All P xs
  All-more xs k e l here h more = h (subst (All P) (sym (drop_more xs k e l)) (All-cons P (get_or xs k e) (drop (k + 1) xs) here more))

  pub All-seen : (xs : List X) (k : ℕ) → length xs ≤ k → (All P (drop k xs) → All P xs) → All P xs
  All-seen xs k l h = h (subst (All P) (sym (drop_all k xs l)) (All-nil P))
