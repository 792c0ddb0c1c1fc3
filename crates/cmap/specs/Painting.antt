-- The glyphs of all characters by groups in any order.
use Rattle.std.specs.Prelude.{◌≡◌, ℕ, ◌+◌, ◌-◌, ◌*◌, ◌<◌, List, length, slice_index}
use Rattle.std.specs.Option.{unwrap_or}
use Rattle.cmap.specs.Groups.{by_groups}
use Rattle.cmap.specs.Passed.{IsLeading}

-- one more than the last character of Unicode
abbrev pub characters : ℕ
characters = 1114112

-- each character's glyph by n groups, 0 where they don't have it
pub record AreAll (table : List ℕ) (n : ℕ) (glyphs : List ℕ) : Type 0 where
  pub count : length glyphs ≡ characters
  pub each : (q : ℕ) → q < characters → slice_index glyphs q ≡ unwrap_or (by_groups table n 16 q) 0

-- the same after the first i of the n groups: a character that one of these has is passed over, and an open one has no
-- glyph yet
pub record IsPainted (table : List ℕ) (n i : ℕ) (next glyphs : List ℕ) : Type 0 where
  pub leading : IsLeading next
  pub places : length next ≡ characters + 1
  pub count : length glyphs ≡ characters
  pub end : slice_index next characters ≡ characters
  pub passed : (q : ℕ) → q < characters → q < slice_index next q
      → slice_index glyphs q ≡ unwrap_or (by_groups table n 16 q) 0
  pub blank : (q : ℕ) → q < characters → slice_index next q ≡ q → slice_index glyphs q ≡ 0
  pub left : (q : ℕ) → q < characters → slice_index next q ≡ q
      → by_groups table n 16 q ≡ by_groups table (n - i) (16 + 12 * i) q
