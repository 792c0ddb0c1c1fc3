-- A font with own glyphs after its own.
use Rattle.std.specs.Prelude.{◌≡◌, ℕ, ◌-◌, nat_lt, Bool, true, List, ◌++◌, length, map, min, take, replicate, pos}
use Rattle.cid_embed.specs.Width.{thousandths}
use Rattle.pdf_operators.specs.declared.places.Font.{Font}
use Rattle.pdf_operators.specs.declared.places.GlyphMetrics.{GlyphMetrics}
use Rattle.pdf_figures.specs.declared.ink.OwnInk.{OwnInk}
use Rattle.pdf_figures.specs.Laws.{IsInked}
use Rattle.pdf_figures.specs.View.{inks_of}

-- the width that W has of an own glyph's advance; a line isn't vertical
abbrev pub own_metrics : ℕ → OwnInk → GlyphMetrics
own_metrics units o = record { displacement = pos (thousandths o.advance units); position = pos 0 }

abbrev pub has_parts : OwnInk → Bool
has_parts o = nat_lt 0 (length o.parts.items)

-- of the first `count` glyphs, whether they have ink; those of which nothing is known have
abbrev pub first_inked : ℕ → List Bool → List Bool
first_inked count known = take (min count (length known)) known ++ replicate (count - min count (length known)) true

abbrev pub all_inked : ℕ → List Bool → List OwnInk → List Bool
all_inked count known own = first_inked count known ++ map has_parts own

-- a font has the units and the glyphs of another, and own ones after these
pub record IsWithOwn (f : Font) (known : List Bool) (own : List OwnInk) (all : Font) : Type 0 where
  pub units : all.units ≡ f.units
  pub metrics : all.metrics.now ≡ f.metrics.now ++ map (own_metrics f.units) own
  pub inked : IsInked (length f.metrics.now) (inks_of own) known all.inked.now
