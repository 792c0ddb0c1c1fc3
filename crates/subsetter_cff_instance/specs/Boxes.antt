-- What the tables of metrics have of the boxes of the new font's glyphs (OpenType, "head", "hhea" and "hmtx").
use Rattle.std.specs.Prelude.{ℕ, List, length, map, slice_get, Option, Some, None, ℤ, pos}
use Rattle.std.specs.Int.{w16, cast_unsigned}
use Rattle.std.specs.List.{fold, range_with_len}
use Rattle.std.specs.Option.{option_and_then, option_map}
use Rattle.subsetter_points.specs.declared.bounds.Bounds.{Bounds}
use Rattle.subsetter_sfnt.specs.declared.fields.hmtx.LongHorMetric.{LongHorMetric}
use Rattle.subsetter_instance.specs.declared.tables.extremes.Extents.{Extents}
use Rattle.subsetter_instance.specs.Tables.Extremes.{extents_of, joined}

-- ---- a glyph
-- the one of this number, if it is there
abbrev pub among : {A : Type 0} → List (Option A) → ℕ → Option A
among all g = option_and_then (λ one. one) (slice_get all g)

-- the left side bearing is the least x, 0 without an outline
abbrev pub bearing : Option Bounds → ℤ
bearing None = pos 0
bearing (Some b) = b.x_min

abbrev pub with_bearing : Option Bounds → LongHorMetric → LongHorMetric
with_bearing b m = record { advance_width = m.advance_width; lsb = cast_unsigned w16 (bearing b) }

abbrev pub drawn_metric : List (Option LongHorMetric) → List (Option Bounds) → ℕ → Option LongHorMetric
drawn_metric all boxes g = option_map (with_bearing (among boxes g)) (among all g)

-- its extents, where it has an outline
abbrev pub extents_by : Option LongHorMetric → Option Bounds → Option Extents
extents_by None b = None
extents_by (Some m) None = None
extents_by (Some m) (Some b) = Some (extents_of m.advance_width b)

abbrev pub glyph_extents : List (Option LongHorMetric) → List (Option Bounds) → ℕ → Option Extents
glyph_extents all boxes g = extents_by (among all g) (among boxes g)

-- ---- all glyphs
abbrev pub drawn_metrics : List (Option LongHorMetric) → List (Option Bounds) → List (Option LongHorMetric)
drawn_metrics all boxes = map (drawn_metric all boxes) (range_with_len 0 (length all))

abbrev pub all_extents : List (Option LongHorMetric) → List (Option Bounds) → Option Extents
all_extents all boxes = fold joined None (map (glyph_extents all boxes) (range_with_len 0 (length all)))
