-- The extremes of the glyphs that are drawn (OpenType, "head" and "hhea").
use Rattle.std.specs.Prelude.{ℕ, List, [], ◌∷◌, ◌++◌, map, Option, Some, None, max, ℤ, pos, ◌-ℤ◌}
use Rattle.std.specs.List.{fold}
use Rattle.std.specs.Int.{w16, to_be_bytes, int_min, int_max}
use Rattle.subsetter_points.specs.declared.bounds.Bounds.{Bounds}
use Rattle.subsetter_points.specs.declared.outline.Point.{Point}
use Rattle.subsetter_points.specs.Bounds.{box_around, bounds_bytes}
use Rattle.subsetter_points.specs.Simple.{signed_word}
use Rattle.subsetter_instance.specs.Glyphs.Drawn.{Drawn}
use Rattle.subsetter_instance.specs.declared.tables.extremes.Extents.{Extents}

-- ---- a glyph with contours, and several

-- a right side bearing, which is 32767 where it is greater, as 16 bits hold no more; none is under -32767, as no
-- advance is under 0
abbrev pub saturated : ℤ → ℤ
saturated v = int_min v (pos 32767)

-- the right side bearing of a glyph: what its advance is more than its greatest x
abbrev pub extents_of : ℕ → Bounds → Extents
extents_of advance b = record { bounds = b; right = saturated (pos advance -ℤ b.x_max) }

-- none of a glyph without points, which has no contours
abbrev pub glyph_extents : ℕ → List Point → Option Extents
glyph_extents advance [] = None
glyph_extents advance (p ∷ points) = Some (extents_of advance (box_around p points))

-- the least box around two, and the lesser right side bearing
abbrev pub both : Extents → Extents → Extents
both a b = record {
  bounds =
      record {
        x_min = int_min a.bounds.x_min b.bounds.x_min;
        y_min = int_min a.bounds.y_min b.bounds.y_min;
        x_max = int_max a.bounds.x_max b.bounds.x_max;
        y_max = int_max a.bounds.y_max b.bounds.y_max;
      };
  right = int_min a.right b.right;
}

abbrev pub joined : Option Extents → Option Extents → Option Extents
joined None e = e
joined (Some a) None = Some a
joined (Some a) (Some b) = Some (both a b)

-- those of all glyphs, none where none has contours
abbrev pub all_extents : List Drawn → Option Extents
all_extents drawn = fold (λ e d. joined e (glyph_extents d.advance d.points)) None drawn

-- advanceWidthMax: the greatest advance
abbrev pub widest : List Drawn → ℕ
widest drawn = fold max 0 (map (λ d. d.advance) drawn)

-- ---- written

-- xMin, yMin, xMax and yMax of "head": 0 where no glyph has contours
abbrev pub box_bytes : Option Extents → List ℕ
box_bytes None = 0 ∷ 0 ∷ 0 ∷ 0 ∷ 0 ∷ 0 ∷ 0 ∷ 0 ∷ []
box_bytes (Some e) = bounds_bytes e.bounds

-- minLeftSideBearing, minRightSideBearing and xMaxExtent of "hhea": 0 where no glyph has contours. The left side
-- bearing of a glyph is its least x, so the least of them is that of the box; and the extent, which is the left side
-- bearing and the width of the glyph's box, is its greatest x
abbrev pub side_bytes : Option Extents → List ℕ
side_bytes None = 0 ∷ 0 ∷ 0 ∷ 0 ∷ 0 ∷ 0 ∷ []
side_bytes (Some e) = signed_word e.bounds.x_min ++ signed_word e.right ++ signed_word e.bounds.x_max

-- advanceWidthMax, and what is after it
abbrev pub extreme_bytes : List Drawn → List ℕ
extreme_bytes drawn = to_be_bytes w16 (widest drawn) ++ side_bytes (all_extents drawn)
