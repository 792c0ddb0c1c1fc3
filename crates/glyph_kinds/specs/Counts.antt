-- How many glyphs have each kind of pictures.
use Rattle.std.specs.Prelude.{ℕ, ◌+◌, ◌/◌, ◌%◌, ◌^◌, ◌==◌, Bool, if◌then◌else◌, List, [], ◌∷◌, map}

-- bit `kind` of a set of kinds is set
abbrev pub has_kind : ℕ → ℕ → Bool
has_kind kind kinds = kinds / 2 ^ kind % 2 == 1

abbrev pub count_of : List ℕ → ℕ → ℕ
count_of [] kind = 0
count_of (kinds ∷ all) kind = if has_kind kind kinds then count_of all kind + 1 else count_of all kind

-- each kind, with how many have it
abbrev pub kind_counts : List ℕ → List (ℕ × ℕ)
kind_counts all =
    map (λ kind. (kind, count_of all kind))
    (0 ∷ 1 ∷ 2 ∷ 3 ∷ 4 ∷ 5 ∷ 6 ∷ 7 ∷ 8 ∷ 9 ∷ 10 ∷ 11 ∷ 12 ∷ 13 ∷ 14 ∷ 15 ∷ 16 ∷ [])
