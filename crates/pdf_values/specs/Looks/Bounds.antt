-- FontBBox (ISO 32000-1, Table 122).
use Rattle.std.specs.Prelude.{ℕ, ◌&&◌, if◌then◌else◌, int_lt, List, Option, Some, None, pos}
use Rattle.std.specs.Option.{option_and_then, option_or, unwrap_or}
use Rattle.subsetter_sfnt.specs.Fields.Head.{x_min, y_min, x_max, y_max}
use Rattle.pdf_values.specs.Rounding.{lowered, raised, IsBelow, IsAbove}
use Rattle.pdf_values.specs.declared.looks.bounds.Bounds.{Bounds}
use Rattle.pdf_values.specs.declared.looks.bounds.Bounds.TheVariants.{Font, Kept}
use Rattle.pdf_values.specs.declared.looks.bounds.Edges.{Edges}
use Rattle.pdf_values.specs.declared.looks.bounds.GlyphBox.{GlyphBox}

-- a box that has a width and a height
abbrev pub extended : GlyphBox → Option GlyphBox
extended b = if int_lt b.x_min b.x_max && int_lt b.y_min b.y_max then Some b else None

-- the box of all glyphs, which `head` has
abbrev pub head_box : Option (List ℕ) → Option GlyphBox
head_box head =
    option_and_then (λ a.
    option_and_then (λ b.
    option_and_then (λ c.
    option_and_then (λ d.
    extended (record { x_min = a; y_min = b; x_max = c; y_max = d }))
    (y_max head)) (x_max head)) (y_min head)) (x_min head)

abbrev pub no_box : GlyphBox
no_box = record { x_min = pos 0; y_min = pos 0; x_max = pos 0; y_max = pos 0 }

-- that of `head`, unless the other is chosen, else one around the kept glyphs, if the caller has it
abbrev pub box_of : Bounds → Option (List ℕ) → Option GlyphBox → GlyphBox
box_of Font head kept = unwrap_or (option_or (head_box head) kept) no_box
box_of Kept head kept = unwrap_or kept no_box

-- in thousandths, low edges down and high ones up
abbrev pub outward : GlyphBox → ℕ → Edges
outward b units =
    record {
      x_min = lowered b.x_min units;
      y_min = lowered b.y_min units;
      x_max = raised b.x_max units;
      y_max = raised b.y_max units;
    }

abbrev pub bounds_of : Bounds → Option (List ℕ) → Option GlyphBox → ℕ → Edges
bounds_of choice head kept units = outward (box_of choice head kept) units

-- the least box of whole thousandths that holds a box
pub record IsAround (b : GlyphBox) (units : ℕ) (r : Edges) : Type 0 where
  pub left : IsBelow b.x_min units r.x_min
  pub bottom : IsBelow b.y_min units r.y_min
  pub right : IsAbove b.x_max units r.x_max
  pub top : IsAbove b.y_max units r.y_max
