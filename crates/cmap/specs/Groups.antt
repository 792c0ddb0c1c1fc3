-- Format 12: ranges of characters with glyphs in a row (OpenType, "cmap", "Format 12: Segmented coverage").
use Rattle.std.specs.Prelude.{ℕ, Bool, zero, suc, ◌+◌, ◌-◌, ◌*◌, ◌^◌, ◌&&◌, nat_le, nat_lt, if◌then◌else◌, List, take}
use Rattle.std.specs.Prelude.{drop, Option, Some, None}
use Rattle.std.specs.Option.{option_and_then}
use Rattle.subsetter_base.specs.Bytes.{be, range, number}

-- startCharCode, endCharCode and startGlyphID, four bytes each
pub record Group : Type 0 where
  pub start : ℕ
  pub end : ℕ
  pub glyph : ℕ

abbrev pub group_of : List ℕ → Group
group_of bytes =
    record { start = be (take 4 bytes); end = be (take 4 (drop 4 bytes)); glyph = be (take 4 (drop 8 bytes)) }

-- the group at a place, whose bytes are there
unfoldable pub group_at : List ℕ → ℕ → Group
group_at table k = group_of (take 12 (drop (16 + 12 * k) table))

-- whether a character lies in a group
abbrev pub has : Group → ℕ → Bool
has g c = nat_le g.start c && nat_le c g.end

-- a glyph's number, which has 16 bits
abbrev pub in_range : ℕ → Option ℕ
in_range g = if nat_lt g (2 ^ 16) then Some g else None

-- the glyph of a character by the next n groups from byte `at` on, as far as they are there: that of the first group
-- that has the character
unfoldable pub by_groups : List ℕ → ℕ → ℕ → ℕ → Option ℕ
by_groups table zero at c = None
by_groups table (suc n) at c =
    option_and_then (λ bytes.
    let g = group_of bytes in if has g c then in_range (g.glyph + (c - g.start)) else by_groups table n (at + 12) c)
    (range table at 12)

-- the glyph of a character by a table of format 12: numGroups is at byte 12, the groups after it
abbrev pub glyph_by_groups : List ℕ → ℕ → Option ℕ
glyph_by_groups table c = option_and_then (λ n. by_groups table n 16 c) (number table 12 4)
