-- The least box around the glyphs of a `CFF ` table (Technical Note 5176).
use Rattle.std.specs.Prelude.{ℕ, zero, suc, ◌+◌, List, Option, None, option_map}
use Rattle.std.specs.Result.{result_ok}
use Rattle.subsetter_base.specs.Options.{◌>>=◌}
use Rattle.subsetter_type2.specs.Subroutines.{entry_at}
use Rattle.subsetter_cff.specs.Read.Cff.{char_strings}
use Rattle.subsetter_cff.specs.Read.Opened.{opened}
use Rattle.pdf_values.specs.declared.looks.bounds.GlyphBox.{GlyphBox}
use Rattle.pdf_glyphs.specs.Boxes.{joined}
use Rattle.subsetter_boxes.specs.CharstringBox.{charstring_box}
use Rattle.subsetter_points.specs.declared.bounds.Bounds.{Bounds}

abbrev pub box_in : Bounds → GlyphBox
box_in b = record { x_min = b.x_min; y_min = b.y_min; x_max = b.x_max; y_max = b.y_max }

-- the box of an entry of the CharStrings INDEX
abbrev pub glyph_box : List (Option (List ℕ)) → ℕ → Option GlyphBox
glyph_box entries glyph = option_map box_in (entry_at entries glyph >>= charstring_box)

-- the least box around those of n glyphs, from one on
abbrev pub boxes_from : List (Option (List ℕ)) → ℕ → ℕ → Option GlyphBox
boxes_from entries glyph zero = None
boxes_from entries glyph (suc n) = joined (glyph_box entries glyph) (boxes_from entries (glyph + 1) n)

-- around the first `count` glyphs of a table; none of a table that can't be opened
abbrev pub kept_box : List ℕ → ℕ → Option GlyphBox
kept_box bytes count = do
  cff ← result_ok (opened bytes)
  entries ← char_strings cff
  boxes_from entries 0 count
