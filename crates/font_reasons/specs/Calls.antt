-- What the calls take and keep of a font.
use Rattle.std.specs.Prelude.{ℕ, ℤ, Bool, true, false, List, Option}
use Rattle.subsetter_base.specs.declared.error.Error.{Error}
use Rattle.subsetter_base.specs.declared.tag.Tag.{Tag}
use Rattle.subsetter_sfnt.specs.Extras.{all_extras}
use Rattle.subsetter_sfnt.specs.Read.{Font}
use Rattle.subsetter_sfnt.specs.declared.extras.Extras.{Extras}
use Rattle.font_reasons.specs.declared.asked.Call.{Call}
use Rattle.font_reasons.specs.declared.asked.Call.TheVariants.{Subset, SubsetAt, Embed, EmbedAt, GlyphsOf}
use Rattle.font_reasons.specs.declared.asked.Call.TheVariants.{Advances}

-- what was asked for of a font, and the error
pub record Question : Type 0 where
  pub call : Call
  pub error : Error
  pub index : ℕ
  pub glyphs : List ℕ
  pub coordinates : List (Tag × ℤ)
  pub extras : Extras
  pub tokens : ℕ
  pub depth : ℕ
  pub bound : Option ℕ
  pub bytes : Option ℕ

-- the face that a question asks about, with all its tables
abbrev pub face_in : Question → List ℕ → Font
face_in a bytes = record { bytes = bytes; index = a.index; extras = all_extras }

-- calls on the outlines of glyphs
abbrev pub takes_outlines : Call → Bool
takes_outlines GlyphsOf = false
takes_outlines Advances = false
takes_outlines other = true

-- calls at coordinates
abbrev pub is_at : Call → Bool
is_at Subset = false
is_at Embed = false
is_at GlyphsOf = false
is_at other = true

-- calls that keep names, and names of glyphs, as far as they are asked for; a font for a PDF has none
abbrev pub keeps : Call → Bool → Bool
keeps Subset asked = asked
keeps SubsetAt asked = asked
keeps Embed asked = asked
keeps EmbedAt asked = asked
keeps other asked = false

abbrev pub keeps_names : Call → Extras → Bool
keeps_names call x = keeps call x.names

abbrev pub keeps_glyph_names : Call → Extras → Bool
keeps_glyph_names call x = keeps call x.glyph_names
