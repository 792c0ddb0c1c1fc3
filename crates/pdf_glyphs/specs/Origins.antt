-- What the code has of a record of "VORG".
use Rattle.std.specs.Prelude.{ℕ, List, Option, Some, None, ℤ, get_or, slice_set}
use Rattle.std.specs.Option.{option_or}
use Rattle.pdf_glyphs.specs.Vertical.{Origin}
use Rattle.pdf_glyphs.specs.declared.origins.GlyphOrigin.{GlyphOrigin}

abbrev pub origin_seen : GlyphOrigin → Origin
origin_seen o = record { glyph = o.glyph; y = o.y }

-- the list with a y at an index, unless one is there
abbrev pub filled : List (Option ℤ) → ℕ → ℤ → List (Option ℤ)
filled ys n y = slice_set ys n (option_or (get_or ys n None) (Some y))
