-- The members of a list by their places in another: the order of a subset of a subset.
use Rattle.std.proofs.Common.{◌≡◌, ℕ, ◌<◌, suc, List, [], ◌∷◌, length, get_or, refl, sym, ap, ◌∙◌, arith}
use Rattle.std.specs.Prelude.{map}
use Rattle.std.proofs.lemmas.List.{length-map, get_or-map}

-- each member of a list is the member of the first at the place that the second names
pub record AreAt (first second order : List ℕ) : Type 0 where
  pub size : length order ≡ length second
  pub nth : (i : ℕ) → i < length second → get_or order i 0 ≡ get_or first (get_or second i 0) 0
  pub within : (i : ℕ) → i < length second → get_or second i 0 < length first

-- the members at given places
abbrev pub picked : List ℕ → List ℕ → List ℕ
picked first second = map (λ j. get_or first j 0) second

pub picked_at : (first second : List ℕ) → ((i : ℕ) → i < length second → get_or second i 0 < length first) → AreAt first second (picked first second)
picked_at first second within = record { size = length-map second (λ j. get_or first j 0); nth = λ i lt. get_or-map (λ j. get_or first j 0) second i 0 0 lt; within = within }

pub same_lists : {A : Type 0} (xs ys : List A) (d : A) → length xs ≡ length ys → ((i : ℕ) → i < length xs → get_or xs i d ≡ get_or ys i d) → xs ≡ ys
same_lists [] [] d len h = refl
same_lists [] (y ∷ ys) d len h = absurd (omega (arith, len))
same_lists (x ∷ xs) [] d len h = absurd (omega (arith, len))
same_lists (x ∷ xs) (y ∷ ys) d len h = ap (λ z. z ∷ xs) (h 0 (omega arith)) ∙ ap (λ l. y ∷ l) (same_lists xs ys d (omega (arith, len)) (λ i lt. h (suc i) (omega arith)))

-- all places in order
pub all_places : (first all : List ℕ) → length all ≡ length first → ((i : ℕ) → i < length all → get_or all i 0 ≡ i) → AreAt first all first
all_places first all len each = record { size = omega (arith, len); nth = λ i lt. ap (λ j. get_or first j 0) (sym (each i lt)); within = λ i lt. omega (arith, each i lt, lt, len) }
