-- The new numbers of glyphs by their old ones, in pages of 64 glyphs.
use Rattle.std.specs.Prelude.{◌≡◌, ◌≢◌, ℕ, ◌+◌, ◌*◌, ◌/◌, ◌%◌, ◌<◌, ◌≤◌, List, length, slice_index, Option, Some, None}
use Rattle.subsetter_base.specs.Indexes.{index_of}

-- 0 for no number, and one more than a number
abbrev pub code : Option ℕ → ℕ
code None = 0
code (Some n) = n + 1

-- the index of a glyph's entry: on the page that the list of pages names for it
abbrev pub entry_index : List ℕ → ℕ → ℕ
entry_index pages g = 64 * slice_index pages (g / 64) + g % 64

abbrev pub entry : List ℕ → List ℕ → ℕ → ℕ
entry pages entries g = slice_index entries (entry_index pages g)

-- the pages are whole and among the entries, and no two glyphs share one but the first, which is empty and is that of
-- all that aren't there
pub record ArePages (pages entries : List ℕ) : Type 0 where
  pub whole : length entries % 64 ≡ 0
  pub within : (k : ℕ) → 64 * slice_index pages k + 64 ≤ length entries
  pub apart : (j k : ℕ) → slice_index pages j ≡ slice_index pages k → slice_index pages j ≢ 0 → j ≡ k
  pub empty : (r : ℕ) → r < 64 → slice_index entries r ≡ 0

-- the entries are the indexes of the glyphs in a list
pub record AreNumbers (pages entries glyphs : List ℕ) : Type 0 where
  pub are_pages : ArePages pages entries
  pub count : length pages ≡ 1024
  pub room : length entries ≤ 64 * length glyphs + 64
  pub number : (q : ℕ) → entry pages entries q ≡ code (index_of glyphs q)
