-- What a subset keeps of outlines in `glyf`, read afresh (OpenType, "glyf", "loca").
use Rattle.std.specs.Prelude.{◌≡◌, ℕ, ◌+◌, ◌*◌, ◌<◌, List, length, slice_index, codes, Some, IsSome}
use Rattle.subsetter_base.specs.Indexes.{index_of}
use Rattle.subsetter_sfnt.specs.Read.{Font, table}
use Rattle.subsetter.specs.Glyf.Read.{Outlines, outlines, entry_size}
use Rattle.subsetter.specs.Glyf.Reaching.Unfold.{HaveSameParts, UnfoldAlike}

-- loca has one entry more than there are glyphs
pub record HasGlyphCount (out : Font) (n : ℕ) : Type 0 where
  pub tables : Outlines
  pub read : outlines out ≡ Some tables
  pub entries : length tables.loca ≡ entry_size tables.long * (n + 1)

-- the hinting programs are the source's, byte for byte
pub record KeepsPrograms (font out : Font) : Type 0 where
  pub control_values : table out (codes "cvt ") ≡ table font (codes "cvt ")
  pub font_program : table out (codes "fpgm") ≡ table font (codes "fpgm")
  pub control_program : table out (codes "prep") ≡ table font (codes "prep")

pub record KeepsOutlines (font : Font) (order : List ℕ) (out : Font) : Type 0 where
  -- the format of loca is in head
  pub has_head : IsSome (table font (codes "head"))
  -- there are exactly as many glyphs as in the order
  pub count : HasGlyphCount out (length order)
  -- each glyph draws as its source, to every depth
  pub drawing : (n i : ℕ) → i < length order → UnfoldAlike font out n (slice_index order i) i
  -- the new number of a component is the place of its glyph in the order
  pub numbering : (i : ℕ) → i < length order
      → HaveSameParts font out (λ g h. index_of order g ≡ Some h) (slice_index order i) i
  pub programs : KeepsPrograms font out
