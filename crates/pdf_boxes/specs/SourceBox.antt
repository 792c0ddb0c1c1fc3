-- The boxes of glyphs of a `CFF ` table whose charstrings may call subroutines (Technical Note 5176, section 14;
-- Technical Note 5177).
use Rattle.std.specs.Prelude.{ℕ, List, [], map, Option, option_map, ℤ, pos}
use Rattle.std.specs.Option.{option_map_or, unwrap_or}
use Rattle.std.specs.Result.{result_ok}
use Rattle.subsetter_base.specs.Options.{◌>>=◌}
use Rattle.subsetter_type2.specs.Flat.{flat_form}
use Rattle.subsetter_type2.specs.declared.limits.Limits.{Limits}
use Rattle.subsetter_cff.specs.Read.Cff.{Cff, char_string}
use Rattle.subsetter_cff.specs.Read.FdArray.Private.{Private, private_of}
use Rattle.subsetter_cff.specs.Read.GlyphTrace.{library}
use Rattle.subsetter_cff.specs.Read.Opened.{opened}
use Rattle.subsetter_boxes.specs.CharstringBox.{flat_box}
use Rattle.subsetter_points.specs.declared.bounds.Bounds.{Bounds}

-- of a charstring under a private dict, run within these limits; none where it can't be
unfoldable pub run_box : Cff → Limits → Private → List ℕ → Option Bounds
run_box cff limits private charstring =
    result_ok (flat_form (library cff private) limits.tokens limits.depth charstring) >>= flat_box

-- the box of what the charstring of a glyph draws
unfoldable pub drawn_box : Cff → Limits → ℕ → Option Bounds
drawn_box cff limits glyph = do
  charstring ← char_string cff glyph
  private ← private_of cff glyph
  run_box cff limits private charstring

-- the top of a glyph's box
abbrev pub top_in : Cff → Limits → ℕ → Option ℤ
top_in cff limits glyph = option_map (λ b. b.y_max) (drawn_box cff limits glyph)

-- none of a table that can't be opened
abbrev pub glyph_top : List ℕ → Limits → ℕ → Option ℤ
glyph_top bytes limits glyph = result_ok (opened bytes) >>= λ cff. top_in cff limits glyph

-- 0 of a glyph without a box
abbrev pub top_or_zero : Cff → Limits → ℕ → ℤ
top_or_zero cff limits glyph = unwrap_or (top_in cff limits glyph) (pos 0)

-- the greatest y of each glyph, 0 of one that has none
abbrev pub tops_in : Cff → Limits → List ℕ → List ℤ
tops_in cff limits glyphs = map (top_or_zero cff limits) glyphs

-- no list of a table that can't be opened
abbrev pub glyph_tops : List ℕ → Limits → List ℕ → List ℤ
glyph_tops bytes limits glyphs = option_map_or (λ cff. tops_in cff limits glyphs) (result_ok (opened bytes)) []
