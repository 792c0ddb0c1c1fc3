-- Where some of the names of `post` are.
use Rattle.std.specs.Prelude.{◌≡◌, ◌≤◌, ◌<◌, ◌+◌, ℕ, zero, suc, List, [], ◌∷◌, ◌++◌, length, drop, get_or, slice_index}
use Rattle.std.specs.Prelude.{Bool, if◌then◌else◌}
use Rattle.subsetter.specs.Common.Post.Read.{names_in, pascal_bytes}

-- how many names there are from one mark to the next
abbrev pub step_of : Bool → ℕ
step_of is_dense = if is_dense then 1 else 8

-- the places of every name, or of every so manieth, in some bytes
abbrev pub AreMarks : ℕ → List ℕ → List (List ℕ) → List ℕ → Type 0
AreMarks step all names [] = Unit {0}
AreMarks step all names (m ∷ marks) =
    (names_in (drop m all) ≡ names) × ((m ≤ length all) × AreMarks step all (drop step names) marks)

-- n names from a number on, each after its length byte, an empty one where none is there
abbrev pub run_bytes : List (List ℕ) → ℕ → ℕ → List ℕ
run_bytes names from zero = []
run_bytes names from (suc n) = run_bytes names from n ++ pascal_bytes (get_or names (from + n) [])

-- where the name with a number begins, if all before it are there
abbrev pub place_of : List (List ℕ) → ℕ → ℕ
place_of names k = length (run_bytes names 0 k)

-- the marks are where names begin, as far as there are names
abbrev pub ArePlaces : List (List ℕ) → List ℕ → Type 0
ArePlaces names marks = (k : ℕ) → k < length marks → k ≤ length names → slice_index marks k ≡ place_of names k

-- a name begins at a place, and ends at another
pub record IsName (bytes : List ℕ) (at end : ℕ) : Type 0 where
  pub some : 1 ≤ length (names_in (drop at bytes))
  pub place : end ≡ at + length (pascal_bytes (get_or (names_in (drop at bytes)) 0 []))
  pub following : names_in (drop end bytes) ≡ drop 1 (names_in (drop at bytes))
