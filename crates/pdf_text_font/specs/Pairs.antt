-- What the codes of a text draw (ISO 32000-1, 9.7.6.2).
use Rattle.std.specs.Prelude.{ℕ, ◌-◌, nat_lt, Bool, true, false, if◌then◌else◌, List, [], ◌∷◌, ◌++◌, map, drop, get_or}
use Rattle.std.specs.List.{list_any}
use Rattle.pdf_codes.specs.Codes.{Used}
use Rattle.pdf_figures.specs.declared.ink.Placed.{Placed}
use Rattle.pdf_runs.specs.declared.codes.Pair.{Pair}
use Rattle.pdf_runs.specs.declared.pieces.Figure.{Figure}
use Rattle.pdf_runs.specs.declared.pieces.Figure.TheVariants.{Source, Blank}
use Rattle.pdf_runs.specs.Codes.{zeroth}
use Rattle.pdf_text_font.specs.declared.pairs.Drawing.{Drawing}
use Rattle.pdf_text_font.specs.declared.pairs.Drawing.TheVariants.{Glyph, Own, Nothing}

-- the pair of each code: that of code 0 is glyph 0, which says nothing
abbrev pub by_code : List Pair → List Pair
by_code pairs = zeroth ∷ drop 1 pairs

-- ---- the subset

abbrev pub use_of : ℕ → Used
use_of g = record { glyph = g; units = [] }

-- the glyph that a figure wants in the subset, of a source with `count` glyphs; an own one and a blank want glyph 0,
-- which each subset has
abbrev pub glyph_of : ℕ → Figure → ℕ
glyph_of count (Source g) = if nat_lt g count then g else 0
glyph_of count Blank = 0

abbrev pub code_use : ℕ → Pair → Used
code_use count p = use_of (glyph_of count p.figure)

abbrev pub part_use : Placed → Used
part_use p = use_of p.glyph

-- the glyphs in use, which have no texts there: those that the codes want, and after them the parts of own glyphs
abbrev pub uses_of : ℕ → List Pair → List Placed → List Used
uses_of count ps parts = map (code_use count) ps ++ map part_use parts

-- ---- by code

-- the own glyph with this number, of `owns`, or nothing
abbrev pub own_or_nothing : ℕ → ℕ → Drawing
own_or_nothing owns k = if nat_lt k owns then Own k else Nothing

-- what draws a figure, where the glyph that it wants has this number in the subset: glyphs after those of the source
-- are own ones
abbrev pub drawing_of : ℕ → ℕ → Figure → ℕ → Drawing
drawing_of count owns (Source g) n = if nat_lt g count then Glyph n else own_or_nothing owns (g - count)
drawing_of count owns Blank n = Nothing

abbrev pub drawings_of : ℕ → ℕ → List Pair → List ℕ → List Drawing
drawings_of count owns [] ns = []
drawings_of count owns (p ∷ ps) [] = []
drawings_of count owns (p ∷ ps) (n ∷ ns) = drawing_of count owns p.figure n ∷ drawings_of count owns ps ns

abbrev pub is_nothing : Drawing → Bool
is_nothing (Glyph n) = false
is_nothing (Own k) = false
is_nothing Nothing = true

-- whether a code draws nothing
abbrev pub has_blank : List Drawing → Bool
has_blank ds = list_any is_nothing ds

-- what a list has for a glyph, another one for an own glyph, and for a blank a value of its own
abbrev pub value_of : {A : Type 0} → A → List A → List A → Drawing → A
value_of none values owns (Glyph n) = get_or values n none
value_of none values owns (Own k) = get_or owns k none
value_of none values owns Nothing = none

abbrev pub values_of : {A : Type 0} → A → List A → List A → List Drawing → List A
values_of none values owns ds = map (value_of none values owns) ds
