-- The characters of a cluster, shared among its glyphs in reading order.
use Rattle.std.specs.Prelude.{ℕ, zero, suc, ◌+◌, ◌-◌, List, [], ◌∷◌, length, take, drop}

-- one character each, as far as there are any
abbrev pub one_each : ℕ → List ℕ → List (List ℕ)
one_each zero cs = []
one_each (suc n) [] = [] ∷ one_each n []
one_each (suc n) (c ∷ cs) = (c ∷ []) ∷ one_each n cs

-- how many characters the first of `count` glyphs has: one, and those that are left over
abbrev pub first_count : ℕ → List ℕ → ℕ
first_count count cs = 1 + (length cs - count)

abbrev pub shares : ℕ → List ℕ → List (List ℕ)
shares zero cs = []
shares (suc n) cs = take (first_count (suc n) cs) cs ∷ one_each n (drop (first_count (suc n) cs) cs)
