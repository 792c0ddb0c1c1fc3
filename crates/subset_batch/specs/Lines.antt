-- The lines of a file of requests.
use Rattle.std.specs.Prelude.{ℕ, ◌-◌, ◌==◌, Bool, true, false, if◌then◌else◌, List, [], ◌∷◌, ◌++◌, length}
use Rattle.std.specs.List.{slice_split}
use Rattle.subset_batch.specs.Bytes.{skip_ws}

-- whether a line has white space alone
abbrev pub is_blank_in : List ℕ → Bool
is_blank_in [] = true
is_blank_in (b ∷ bytes) = false

abbrev pub is_blank_line : List ℕ → Bool
is_blank_line bytes = is_blank_in (skip_ws bytes)

-- a line with its number, if it isn't blank
abbrev pub line_if : ℕ → List ℕ → List (ℕ × List ℕ)
line_if number bytes = if is_blank_line bytes then [] else (number, bytes) ∷ []

-- lines, the last ones of `count`, with their numbers from 1, but for blank ones
abbrev pub numbered : ℕ → List (List ℕ) → List (ℕ × List ℕ)
numbered count [] = []
numbered count (bytes ∷ following) = line_if (count - length following) bytes ++ numbered count following

-- the lines of a file, each ended by a line feed (10), that aren't blank
abbrev pub parts_of : List ℕ → List (List ℕ)
parts_of file = slice_split (λ b. b == 10) file

unfoldable pub request_lines : List ℕ → List (ℕ × List ℕ)
request_lines file = numbered (length (parts_of file)) (parts_of file)
