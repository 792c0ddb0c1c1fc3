-- Lists of glyph numbers without repeats.
use Rattle.std.specs.Prelude.{◌≡◌, ◌↔◌, ◌⊎◌, ℕ, ◌+◌, ◌<◌, ◌≤◌, Bool, Contains, length, slice_index, List, [], ◌∷◌, ◌++◌}
use Rattle.std.specs.Prelude.{Option, Some, None, is_some, ◌==◌, if◌then◌else◌}
use Rattle.std.specs.List.{list_any}
use Rattle.std.specs.Option.{option_map, unwrap_or}
use Rattle.std.specs.List.Sorted.{IsStrictlyIncreasing}

-- the first index of a number in a list
abbrev pub index_of : List ℕ → ℕ → Option ℕ
index_of [] x = None
index_of (y ∷ ys) x = if y == x then Some 0 else option_map (λ i. i + 1) (index_of ys x)

-- the list with a number at its end, unless the number is there
abbrev pub with_glyph : List ℕ → ℕ → List ℕ
with_glyph glyphs x = if is_some (index_of glyphs x) then glyphs else glyphs ++ x ∷ []

-- the list with each number that isn't there, in order
abbrev pub with_glyphs : List ℕ → List ℕ → List ℕ
with_glyphs glyphs [] = glyphs
with_glyphs glyphs (x ∷ xs) = with_glyphs (with_glyph glyphs x) xs

-- a number is in a list
abbrev pub is_listed : List ℕ → ℕ → Bool
is_listed numbers n = list_any (λ m. m == n) numbers

-- the new number of an old one: its index in the order
abbrev pub new_index : List ℕ → ℕ → ℕ
new_index order g = unwrap_or (index_of order g) 0

-- each is first at its own index, so none comes twice
abbrev pub IsWithoutRepeats : List ℕ → Type 0
IsWithoutRepeats xs = (i : ℕ) → i < length xs → index_of xs (slice_index xs i) ≡ Some i

-- every glyph above 0 is among the given: a subset of them has no number left for glyph 0
abbrev pub HasAllAboveZero : List ℕ → Type 0
HasAllAboveZero glyphs = (x : ℕ) → 0 < x → x ≤ 65535 → Contains glyphs x

-- glyph 0 and the given glyphs, each once, from the lowest to the highest
pub record IsAscending (given list : List ℕ) : Type 0 where
  pub rises : IsStrictlyIncreasing list
  pub members : (x : ℕ) → Contains list x ↔ ((x ≡ 0) ⊎ Contains given x)
