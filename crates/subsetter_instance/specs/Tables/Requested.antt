-- The requested glyphs in the order of the font, and what is written of them: a glyph between two of them is empty.
use Rattle.std.specs.Prelude.{◌≡◌, ℕ, ◌+◌, ◌-◌, ◌<◌, ◌≤◌, List, [], ◌∷◌, ◌++◌, length, replicate, Option, None}
use Rattle.std.specs.List.{flat_map}
use Rattle.subsetter_base.specs.Indexes.{index_of}
use Rattle.subsetter_instance.specs.Glyphs.Drawn.{Drawn}
use Rattle.subsetter_instance.specs.Tables.Written.{outline_bytes}

-- no glyph from one number up to another was requested
abbrev pub IsGap : List ℕ → ℕ → ℕ → Type 0
IsGap glyphs from to = (g : ℕ) → from ≤ g → g < to → index_of glyphs g ≡ None

-- a glyph below n is the next one from a number on
pub record IsNext (glyphs : List ℕ) (n from g : ℕ) : Type 0 where
  pub above : from ≤ g
  pub below : g < n
  pub none : IsGap glyphs from g

-- there is none from a number on
pub record IsEnd (glyphs : List ℕ) (n from : ℕ) : Type 0 where
  pub within : from ≤ n
  pub none : IsGap glyphs from n

-- from a number up to n these are the requested glyphs, from the lowest to the highest
abbrev pub IsOrder : List ℕ → ℕ → ℕ → List ℕ → Type 0
IsOrder glyphs n from [] = IsEnd glyphs n from
IsOrder glyphs n from (g ∷ order) = IsNext glyphs n from g × IsOrder glyphs n (g + 1) order

-- the descriptions of these glyphs, one after another
abbrev pub outlines_by : (ℕ → Option Drawn) → List ℕ → List ℕ
outlines_by among order = flat_map (λ g. outline_bytes (among g)) order

-- where each of them begins
abbrev pub starts_by : (ℕ → Option Drawn) → ℕ → List ℕ → List ℕ
starts_by among at [] = []
starts_by among at (g ∷ order) = at ∷ starts_by among (at + length (outline_bytes (among g))) order

-- where each of n glyphs begins from a number on, and where the last one ends: a glyph that isn't among these begins
-- where the next of them does
abbrev pub offsets_by : ℕ → ℕ → ℕ → List ℕ → List ℕ → List ℕ
offsets_by n end from [] starts = replicate (n + 1 - from) end
offsets_by n end from (g ∷ order) [] = []
offsets_by n end from (g ∷ order) (start ∷ starts) =
    replicate (g + 1 - from) start ++ offsets_by n end (g + 1) order starts
