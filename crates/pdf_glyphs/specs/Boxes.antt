-- The boxes of glyphs, by the headers of their outlines (OpenType, "glyf", "Glyph headers"; "loca").
use Rattle.std.specs.Prelude.{ℕ, zero, suc, ◌+◌, ◌*◌, ◌==◌, nat_le, Bool, true, if◌then◌else◌, List, Option, Some, None}
use Rattle.std.specs.Option.{option_and_then, option_copied, option_map, option_map_or}
use Rattle.subsetter_base.specs.Bytes.{field, signed_field}
use Rattle.pdf_values.specs.declared.looks.bounds.GlyphBox.{GlyphBox}
use Rattle.pdf_glyphs.specs.declared.boxes.OutlineTables.{OutlineTables}
use Rattle.std.specs.Int.{int_min, int_max}

-- the bytes of the tables that are there
pub record Outlines : Type 0 where
  pub head : Option (List ℕ)
  pub loca : Option (List ℕ)
  pub glyf : Option (List ℕ)

abbrev pub outlines_view : OutlineTables → Outlines
outlines_view t = record { head = option_copied t.head; loca = option_copied t.loca; glyf = option_copied t.glyf }

-- indexToLocFormat: 0 for entries of two bytes, which are halves of offsets
abbrev pub is_short : Option (List ℕ) → Bool
is_short head = option_map_or (λ n. n == 0) (field head 50 2) true

-- an entry of `loca`: where an outline begins in `glyf`
abbrev pub entry : Outlines → ℕ → Option ℕ
entry t k = if is_short t.head then option_map (λ half. 2 * half) (field t.loca (2 * k) 2) else field t.loca (4 * k) 4

-- xMin, yMin, xMax and yMax of the header at an offset, after numberOfContours
abbrev pub box_at : Option (List ℕ) → ℕ → Option GlyphBox
box_at glyf at =
    option_and_then (λ a.
    option_and_then (λ b.
    option_and_then (λ c.
    option_and_then (λ d.
    Some (record { x_min = a; y_min = b; x_max = c; y_max = d }))
    (signed_field glyf (at + 8))) (signed_field glyf (at + 6)))
    (signed_field glyf (at + 4))) (signed_field glyf (at + 2))

-- the box of a glyph, whose outline has a header of ten bytes unless it is empty
abbrev pub glyph_box : Outlines → ℕ → Option GlyphBox
glyph_box t g =
    option_and_then (λ from.
    option_and_then (λ to. if nat_le (from + 10) to then box_at t.glyf from else None) (entry t (g + 1)))
    (entry t g)

-- the least box around two
abbrev pub around : GlyphBox → GlyphBox → GlyphBox
around a b =
    record {
      x_min = int_min a.x_min b.x_min;
      y_min = int_min a.y_min b.y_min;
      x_max = int_max a.x_max b.x_max;
      y_max = int_max a.y_max b.y_max;
    }

abbrev pub joined : Option GlyphBox → Option GlyphBox → Option GlyphBox
joined None b = b
joined (Some a) None = Some a
joined (Some a) (Some b) = Some (around a b)

-- the least box around those of n glyphs, from one on
abbrev pub boxes_from : Outlines → ℕ → ℕ → Option GlyphBox
boxes_from t g zero = None
boxes_from t g (suc n) = joined (glyph_box t g) (boxes_from t (g + 1) n)
