-- Own glyphs of a subset: their parts under the numbers that these have there (OpenType, "glyf", composite glyph
-- description).
use Rattle.std.specs.Prelude.{ℕ, Bool, true, false, List, [], ◌∷◌, ◌++◌, length, map, take, drop, flat_map}
use Rattle.cid_embed.specs.Width.{thousandths}
use Rattle.own_glyphs.specs.declared.glyph.OwnGlyph.{OwnGlyph}
use Rattle.own_glyphs.specs.declared.glyph.Part.{Part}
use Rattle.pdf_figures.specs.declared.ink.OwnInk.{OwnInk}
use Rattle.pdf_figures.specs.declared.ink.Placed.{Placed}

-- the parts of own glyphs, which are glyphs of the source, one after the other
abbrev pub all_parts : List OwnInk → List Placed
all_parts own = flat_map (λ (o : OwnInk). o.parts.items) own

-- ---- in the subset

-- a part at its place, whose glyph has this number there
abbrev pub part_by : Placed → ℕ → Part
part_by p n = record { glyph = n; x = p.x; y = p.y }

abbrev pub parts_by : List Placed → List ℕ → List Part
parts_by [] ns = []
parts_by (p ∷ ps) [] = []
parts_by (p ∷ ps) (n ∷ ns) = part_by p n ∷ parts_by ps ns

-- a glyph that the subset gets: its parts, drawn in order, and its advance
pub record Added : Type 0 where
  pub parts : List Part
  pub advance : ℕ

abbrev pub added_seen : OwnGlyph → Added
added_seen g = record { parts = g.parts.now; advance = g.advance }

-- own glyphs, whose parts these are, one after the other
abbrev pub own_by : List OwnInk → List Part → List Added
own_by [] ps = []
own_by (o ∷ os) ps =
    record { parts = take (length o.parts.items) ps; advance = o.advance } ∷ own_by os (drop (length o.parts.items) ps)

-- a blank, if one is wanted
abbrev pub blanks : Bool → List Added
blanks true = record { parts = []; advance = 0 } ∷ []
blanks false = []

-- the glyphs that the subset gets: the own ones, and after them a blank, if one is wanted
abbrev pub added : List OwnInk → List Part → Bool → List Added
added own ps blank = own_by own ps ++ blanks blank

-- ---- widths

abbrev pub advances_of : List OwnInk → List ℕ
advances_of own = map (λ (o : OwnInk). o.advance) own

-- advances as W has them, in thousandths of the em
abbrev pub widths_of : ℕ → List OwnInk → List ℕ
widths_of units own = map (λ (o : OwnInk). thousandths o.advance units) own
