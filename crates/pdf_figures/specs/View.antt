-- What the code's figures mean.
use Rattle.std.specs.Prelude.{◌≡◌, ◌≤◌, ◌<◌, ◌+◌, ◌-◌, ◌++◌, ℕ, List, length, map}
use Rattle.pdf_runs.specs.Laws.{Drawn}
use Rattle.pdf_figures.specs.declared.cutting.Uncut.{Uncut}
use Rattle.pdf_figures.specs.declared.ink.Figure.{Figure}
use Rattle.pdf_figures.specs.declared.ink.FigureInk.{FigureInk}
use Rattle.pdf_figures.specs.declared.ink.FigureInk.TheVariants.{Glyph, Own}
use Rattle.pdf_figures.specs.declared.ink.OwnInk.{OwnInk}
use Rattle.pdf_figures.specs.declared.ink.Placed.{Placed}
use Rattle.pdf_figures.specs.Figures.{Figured, Ink, glyph, own}
use Rattle.pdf_figures.specs.Numbers.{own_by}

abbrev pub drawn_of : Placed → Drawn
drawn_of p = record { glyph = p.glyph; x = p.x; y = p.y }

abbrev pub own_seen : OwnInk → Ink
own_seen o = own (map drawn_of o.parts.items) o.advance

abbrev pub ink_seen : FigureInk → Ink
ink_seen (Glyph g) = glyph g
ink_seen (Own o) = own_seen o

abbrev pub figure_seen : Figure → Figured
figure_seen f =
    record {
      ink = ink_seen f.ink;
      text = f.text;
      x_advance = f.x_advance;
      y_advance = f.y_advance;
      x_offset = f.x_offset;
      y_offset = f.y_offset;
    }

abbrev pub figures_seen : List Figure → List Figured
figures_seen fs = map figure_seen fs

-- what is left of a figure that is cut
abbrev pub cut_seen : Uncut → Figured
cut_seen u =
    record {
      ink = own (map drawn_of u.parts.items) 0;
      text = u.text;
      x_advance = u.x_advance;
      y_advance = u.y_advance;
      x_offset = u.x_offset;
      y_offset = u.y_offset;
    }

-- ---- own glyphs by number

abbrev pub inks_of : List OwnInk → List Ink
inks_of os = map own_seen os

-- further ones may have come
pub record Extends (old new : List OwnInk) : Type 0 where
  pub further : List OwnInk
  pub are : new ≡ old ++ further

-- this is the number of an own glyph, after the `count` glyphs of the font
pub record IsNumberOf (count : ℕ) (os : List OwnInk) (i : Ink) (n : ℕ) : Type 0 where
  pub above : count ≤ n
  pub below : n < count + length os
  pub same : own_by (inks_of os) (n - count) ≡ i
