-- What is wrong with a face, or with the tables that a new font is made from: the first of these that is there.
use Rattle.std.specs.Prelude.{ℕ, List, Option}
use Rattle.subsetter_sfnt.specs.Read.{Font}
use Rattle.font_reasons.specs.File.{or_else, no_font}
use Rattle.font_reasons.specs.Outlines.{no_loca}
use Rattle.font_reasons.specs.Parts.{no_glyph, no_outlines, wrong_metrics}
use Rattle.font_reasons.specs.Short.{short_header}
use Rattle.font_reasons.specs.declared.reason.Reason.{Reason}

-- the face itself or a glyph isn't there
abbrev pub no_font_or_glyph : Font → List ℕ → Option Reason
no_font_or_glyph font glyphs = or_else (no_font font) (no_glyph font glyphs)

-- a table is shorter than what is read of it, or isn't there, or metrics are wrong
unfoldable pub wrong_source : Font → Option Reason
wrong_source font = or_else (short_header font) (or_else (no_loca font) (wrong_metrics font))

abbrev pub reason_of_unknown : Font → Option Reason
reason_of_unknown font = or_else (no_font font) (no_outlines font)
