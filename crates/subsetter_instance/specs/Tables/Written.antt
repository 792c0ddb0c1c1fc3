-- The tables of an instance (OpenType, "glyf", "loca", "head", "hhea", "hmtx" and "maxp").
use Rattle.std.specs.Prelude.{ℕ, ◌+◌, Bool, List, [], ◌∷◌, ◌++◌, length, map, slice_get, codes, Option, Some, None, max}
use Rattle.std.specs.Prelude.{nat_lt}
use Rattle.std.specs.List.{flat_map, fold, range_with_len}
use Rattle.std.specs.Option.{option_and_then}
use Rattle.std.specs.Int.{w16, w32, to_be_bytes, cast_unsigned}
use Rattle.subsetter_base.specs.Bytes.{aligned}
use Rattle.subsetter_base.specs.Indexes.{index_of}
use Rattle.subsetter_points.specs.Simple.{parts_bytes}
use Rattle.subsetter_sfnt.specs.Fields.Head.{head_with}
use Rattle.subsetter_sfnt.specs.Fields.Hhea.{hhea_with}
use Rattle.subsetter_sfnt.specs.Fields.Hmtx.{hmtx_bytes}
use Rattle.subsetter_sfnt.specs.Fields.Loca.{loca_bytes}
use Rattle.subsetter_sfnt.specs.Laying.Rows.{FontTables}
use Rattle.subsetter_sfnt.specs.declared.fields.hmtx.LongHorMetric.{LongHorMetric}
use Rattle.subsetter_instance.specs.Glyphs.Drawn.{Drawn}
use Rattle.subsetter_instance.specs.Tables.Extremes.{all_extents, box_bytes, extreme_bytes}

-- what is drawn of a glyph, if it was asked for
abbrev pub glyph_among : List ℕ → List Drawn → ℕ → Option Drawn
glyph_among glyphs drawn g = option_and_then (slice_get drawn) (index_of glyphs g)

-- the same of each of n glyphs
abbrev pub by_glyph : List ℕ → List Drawn → ℕ → List (Option Drawn)
by_glyph glyphs drawn n = map (glyph_among glyphs drawn) (range_with_len 0 n)

-- the description of a glyph, of even length; a glyph that wasn't asked for is empty
abbrev pub outline_bytes : Option Drawn → List ℕ
outline_bytes None = []
outline_bytes (Some d) = aligned 2 (parts_bytes d.ends d.points)

abbrev pub glyf_bytes : List (Option Drawn) → List ℕ
glyf_bytes all = flat_map outline_bytes all

-- offsets are long where half of the last one doesn't fit 16 bits
abbrev pub is_long : List ℕ → Bool
is_long glyf = nat_lt 131070 (length glyf)

-- where each glyph from a place on begins, and where the last one ends
abbrev pub offsets_from : ℕ → List (Option Drawn) → List ℕ
offsets_from at [] = at ∷ []
offsets_from at (d ∷ all) = at ∷ offsets_from (at + length (outline_bytes d)) all

-- the metric of a glyph, 0 and 0 where it wasn't asked for
abbrev pub drawn_metric : Option Drawn → LongHorMetric
drawn_metric None = record { advance_width = 0; lsb = 0 }
drawn_metric (Some d) = record { advance_width = d.advance; lsb = cast_unsigned w16 d.bearing }

-- each glyph has a pair
abbrev pub hmtx_of : List (Option Drawn) → List ℕ
hmtx_of all = hmtx_bytes (length all) (map drawn_metric all)

-- advanceWidthMax, minLeftSideBearing, minRightSideBearing and xMaxExtent are those of what is drawn, and
-- numberOfHMetrics is the number of glyphs
abbrev pub hhea_bytes : ℕ → List Drawn → List ℕ → List ℕ
hhea_bytes n drawn hhea = hhea_with (extreme_bytes drawn) n hhea

-- checksumAdjustment is 0 until the file is laid out, xMin, yMin, xMax and yMax are those of what is drawn, and
-- indexToLocFormat is 0 or 1
abbrev pub head_bytes : Bool → List Drawn → List ℕ → List ℕ
head_bytes long drawn head = head_with long (box_bytes (all_extents drawn)) head

-- the most points of a glyph, and the most contours
abbrev pub most_points : List Drawn → ℕ
most_points drawn = fold max 0 (map (λ d. length d.points) drawn)

abbrev pub most_contours : List Drawn → ℕ
most_contours drawn = fold max 0 (map (λ d. length d.ends) drawn)

-- version 1.0: the number of glyphs, the most points and contours, none of composite glyphs; one zone; nothing of
-- instructions; no component, at depth 1
abbrev pub maxp_bytes : ℕ → List Drawn → List ℕ
maxp_bytes n drawn =
    to_be_bytes w32 0x00010000
    ++ flat_map (to_be_bytes w16)
    (n ∷ most_points drawn ∷ most_contours drawn ∷ 0 ∷ 0 ∷ 1 ∷ 0 ∷ 0 ∷ 0 ∷ 0 ∷ 0 ∷ 0 ∷ 0 ∷ 1 ∷ [])

-- the tables: no hinting, and name and post as they are found
abbrev pub tables : (List ℕ → Option (List ℕ)) → List ℕ → List ℕ → ℕ → List Drawn → List (Option Drawn) → FontTables
tables find head hhea n drawn all = record {
  cff = None;
  cvt = None;
  fpgm = None;
  glyf = Some (glyf_bytes all);
  head = Some (head_bytes (is_long (glyf_bytes all)) drawn head);
  hhea = Some (hhea_bytes n drawn hhea);
  hmtx = Some (hmtx_of all);
  loca = Some (loca_bytes (is_long (glyf_bytes all)) (offsets_from 0 all));
  maxp = Some (maxp_bytes n drawn);
  name = find (codes "name");
  post = find (codes "post");
  prep = None;
}
