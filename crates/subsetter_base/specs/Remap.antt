-- Lists of values without repeats, by a test for equal values.
use Rattle.std.specs.Prelude.{ℕ, ◌+◌, Bool, List, [], ◌∷◌, ◌++◌, Option, Some, None, is_some, nat_lt, if◌then◌else◌}
use Rattle.std.specs.Option.{option_map}

-- the first index of a value in a list
abbrev pub index_by : {A : Type 0} → (A → A → Bool) → List A → A → Option ℕ
index_by eq [] x = None
index_by eq (y ∷ ys) x = if eq y x then Some 0 else option_map (λ i. i + 1) (index_by eq ys x)

-- the list with a value at its end, unless it is there
abbrev pub with_value : {A : Type 0} → (A → A → Bool) → List A → A → List A
with_value eq xs x = if is_some (index_by eq xs x) then xs else xs ++ x ∷ []

-- the sum, where it is below a limit
abbrev pub sum_below : ℕ → ℕ → ℕ → Option ℕ
sum_below limit a b = if nat_lt (a + b) limit then Some (a + b) else None
