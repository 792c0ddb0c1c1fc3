-- The characters that a face has no glyph for.
use Rattle.std.specs.Prelude.{ℕ, ◌&&◌, nat_lt, not, if◌then◌else◌, List, [], ◌∷◌, ◌++◌, length}
use Rattle.subsetter_base.specs.Indexes.{is_listed}

-- each is listed once; a note names three, so a fourth is the last that is listed
abbrev pub with_missing : List ℕ → ℕ → List ℕ
with_missing found c = if nat_lt (length found) 4 && not (is_listed found c) then found ++ c ∷ [] else found

abbrev pub missing_past : List ℕ → List ℕ → List ℕ
missing_past found [] = found
missing_past found (c ∷ characters) = missing_past (with_missing found c) characters

abbrev pub first_missing : List ℕ → List ℕ
first_missing characters = missing_past [] characters
