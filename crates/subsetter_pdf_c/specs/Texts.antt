-- Texts of one character each, as C has them.
use Rattle.std.specs.Prelude.{ℕ, zero, suc, List, [], ◌∷◌}

-- where n texts of one character each end, the first of which begins at character `start`
abbrev pub one_each : ℕ → ℕ → List ℕ
one_each start zero = []
one_each start (suc count) = suc start ∷ one_each (suc start) count
