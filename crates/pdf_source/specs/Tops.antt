-- The tops of glyphs of the source, in the font's units: by the header in `glyf`, or by the charstring in `CFF `.
use Rattle.std.specs.Prelude.{ℕ, ◌==◌, ◌&&◌, not, is_some, Bool, true, false, if◌then◌else◌, List, [], codes, Option}
use Rattle.std.specs.Prelude.{Some, None, ℤ}
use Rattle.std.specs.Option.{option_and_then}
use Rattle.subsetter_type2.specs.declared.limits.Limits.{Limits}
use Rattle.pdf_boxes.specs.SourceBox.{glyph_top, glyph_tops}
use Rattle.pdf_glyphs.specs.Tops.{glyph_by, top_of}
use Rattle.pdf_values.specs.declared.looks.bounds.GlyphBox.{GlyphBox}
use Rattle.pdf_values.specs.declared.descriptor.Known.{Known}
use Rattle.pdf_source.specs.Source.{outlines_of}

-- the top of a glyph of `CFF `; glyph 0 is that of a character which the font lacks
abbrev pub drawn_top : Option (List ℕ) → Limits → ℕ → Option ℤ
drawn_top None limits g = None
drawn_top (Some cff) limits g = if g == 0 then None else glyph_top cff limits g

-- the top of a character's glyph
abbrev pub top_by : Option (List ℕ) → (List ℕ → Option (List ℕ)) → Limits → ℕ → Option ℤ
top_by (Some glyf) find limits c = top_of (outlines_of find) (find (codes "cmap")) c
top_by None find limits c = option_and_then (drawn_top (find (codes "CFF ")) limits) (glyph_by (find (codes "cmap")) c)

abbrev pub character_top : (List ℕ → Option (List ℕ)) → Limits → ℕ → Option ℤ
character_top find limits c = top_by (find (codes "glyf")) find limits c

-- what is known of glyphs: the tops of "H" (72) and "x" (120), a stem, and the box around the kept ones
abbrev pub known_of : (List ℕ → Option (List ℕ)) → Limits → Option ℕ → Option GlyphBox → Known
known_of find limits stem kept = record {
  cap_top = character_top find limits 72;
  x_top = character_top find limits 120;
  kept = kept;
  stem = stem;
}

-- ---- in vertical writing

-- with `vmtx` and without `VORG` the top and its bearing say the origin; where there is `glyf` they do so always
abbrev pub are_wanted : (List ℕ → Option (List ℕ)) → Bool
are_wanted find =
    not (is_some (find (codes "glyf"))) && (is_some (find (codes "vmtx")) && not (is_some (find (codes "VORG"))))

abbrev pub tops_if : Bool → Option (List ℕ) → Limits → List ℕ → List ℤ
tops_if false cff limits glyphs = []
tops_if true None limits glyphs = []
tops_if true (Some cff) limits glyphs = glyph_tops cff limits glyphs

-- the tops of glyphs of `CFF `, where they are wanted
abbrev pub tops_of : (List ℕ → Option (List ℕ)) → Limits → List ℕ → List ℤ
tops_of find limits glyphs = tops_if (are_wanted find) (find (codes "CFF ")) limits glyphs
