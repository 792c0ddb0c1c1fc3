-- Own glyphs by number: after the glyphs of the font.
use Rattle.std.specs.Prelude.{ℕ, ◌-◌, Bool, true, nat_lt, if◌then◌else◌, List, [], get_or}
use Rattle.pdf_runs.specs.declared.items.Item.{Item}
use Rattle.pdf_figures.specs.Figures.{Figured, Ink, glyph, own}

-- of own glyphs, one that is none is a blank
abbrev pub as_own : Ink → Ink
as_own (glyph g) = own [] 0
as_own (own ps a) = own ps a

-- the own glyph that has a number
abbrev pub own_by : List Ink → ℕ → Ink
own_by inks k = as_own (get_or inks k (own [] 0))

-- with `count` glyphs in the font, what a glyph of an item is
abbrev pub ink_by : ℕ → List Ink → ℕ → Ink
ink_by count inks g = if nat_lt g count then glyph g else own_by inks (g - count)

abbrev pub figured_by : ℕ → List Ink → Item → Figured
figured_by count inks i =
    record {
      ink = ink_by count inks i.glyph;
      text = i.text;
      x_advance = i.x_advance;
      y_advance = i.y_advance;
      x_offset = i.x_offset;
      y_offset = i.y_offset;
    }

-- a glyph is one of the font's `count` glyphs
abbrev pub is_known_ink : ℕ → Ink → Bool
is_known_ink count (glyph g) = nat_lt g count
is_known_ink count (own ps a) = true

abbrev pub is_known : ℕ → Figured → Bool
is_known count f = is_known_ink count f.ink
