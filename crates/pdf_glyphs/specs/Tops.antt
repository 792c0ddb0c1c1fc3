-- The top of a character's glyph.
use Rattle.std.specs.Prelude.{ℕ, ◌==◌, if◌then◌else◌, List, Option, None, ℤ}
use Rattle.std.specs.Option.{option_and_then, option_map}
use Rattle.cmap.specs.Subtable.{mapping, glyph_of}
use Rattle.pdf_glyphs.specs.Boxes.{Outlines, glyph_box}

-- the glyph of a character by `cmap`, which has 0 for one that the font lacks
abbrev pub glyph_by : Option (List ℕ) → ℕ → Option ℕ
glyph_by cmap c = option_map (λ m. glyph_of m c) (option_and_then mapping cmap)

-- the top of its box, if it has one
abbrev pub top_of : Outlines → Option (List ℕ) → ℕ → Option ℤ
top_of t cmap c =
    option_and_then (λ g. if g == 0 then None else option_map (λ b. b.y_max) (glyph_box t g)) (glyph_by cmap c)
