-- Laws of the font of a text.
use Rattle.std.specs.Prelude.{◌≡◌, ◌<◌, ◌≤◌, ℕ, List, length, map, get_or, Some}
use Rattle.pdf_text.specs.Cmaps.Cmap.{cmap_text, mapping_in}
use Rattle.pdf_figures.specs.declared.ink.OwnInk.{OwnInk}
use Rattle.pdf_figures.specs.declared.ink.Placed.{Placed}
use Rattle.pdf_runs.specs.declared.codes.Pair.{Pair}
use Rattle.pdf_runs.specs.declared.pieces.Piece.{Piece}
use Rattle.pdf_runs.specs.Codes.{with_pairs}
use Rattle.pdf_text_font.specs.GlyphMap.{glyph_in, glyph_number, map_bytes}
use Rattle.pdf_text_font.specs.Own.{all_parts, own_by, part_by, parts_by}
use Rattle.pdf_text_font.specs.Said.{AreSaid, HaveZeroth}
use Rattle.pdf_text_font.specs.Texts.{SayCharacters, lines_of}
use Rattle.pdf_text_font.specs.declared.pairs.Drawing.{Drawing}
use Rattle.pdf_text_font.specs.declared.pairs.Drawing.TheVariants.{Nothing}

-- a reader of the map finds of each code the number of its glyph
abbrev pub MapsAreRead : Type 0
MapsAreRead =
    (first owns : ℕ) (ds : List Drawing) (k : ℕ) → k < length ds → glyph_number first owns (get_or ds k Nothing) < 65536
    → glyph_in (map_bytes first owns ds) k ≡ Some (glyph_number first owns (get_or ds k Nothing))

-- own glyphs whose parts' glyphs have these numbers keep their parts, in order and in their places, and their advances
abbrev pub OwnGlyphsAreKept : Type 0
OwnGlyphsAreKept =
    (number : ℕ → ℕ) (own : List OwnInk)
    → own_by own (parts_by (all_parts own) (map (λ (p : Placed). number p.glyph) (all_parts own)))
    ≡ map (λ (o : OwnInk).
    record { parts = map (λ (p : Placed). part_by p (number p.glyph)) o.parts.items; advance = o.advance })
    own

-- a reader of ToUnicode finds a line for each code above 0, and no other
abbrev pub TextsAreRead : Type 0
TextsAreRead =
    (ps : List Pair) → length ps ≤ 65536 → SayCharacters ps → mapping_in (cmap_text (lines_of ps)) ≡ Some (lines_of ps)

-- a reader by ToUnicode finds the texts of the pairs, but for characters that no code may say
abbrev pub TextsAreSaid : Type 0
TextsAreSaid = (ps : List Pair) → length ps ≤ 65536 → SayCharacters ps → HaveZeroth ps → AreSaid ps

-- pairs that have those of a run too are pairs as runs have them
abbrev pub ZerothStays : Type 0
ZerothStays = (ps : List Pair) (pieces : List Piece) → HaveZeroth ps → HaveZeroth (with_pairs ps pieces)
