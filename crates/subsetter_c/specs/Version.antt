-- The version of the library.
use Rattle.std.specs.Prelude.{ℕ, List, [], ◌∷◌}

-- in three numbers, that of the first line of the file VERSION, and 0
abbrev pub version : List ℕ
version = 1 ∷ 0 ∷ 0 ∷ 0 ∷ []
