-- Vertical metrics of glyphs (OpenType, "vhea", "vmtx", "VORG"), as a PDF has them (ISO 32000-1, 9.7.4.3).
use Rattle.std.specs.Prelude.{ℕ, zero, suc, ◌+◌, ◌-◌, ◌*◌, ◌/◌, ◌^◌, ◌==◌, min, nat_lt, if◌then◌else◌, List, [], ◌∷◌}
use Rattle.std.specs.Prelude.{slice_get, Option, Some, None, ℤ, pos, neg_ℤ, ◌+ℤ◌}
use Rattle.std.specs.Option.{option_and_then, option_copied, option_map, option_map_or, option_or, unwrap_or}
use Rattle.pdf_text.specs.declared.metrics.columns.Column.{Column}
use Rattle.subsetter_base.specs.Bytes.{field, signed_field}
use Rattle.pdf_values.specs.Head.{units_per_em}
use Rattle.pdf_values.specs.Rounding.{thousandths}
use Rattle.pdf_glyphs.specs.Boxes.{Outlines, glyph_box, outlines_view}
use Rattle.pdf_glyphs.specs.HeightVariation.{Variation, varied_height, varied_origin}
use Rattle.pdf_glyphs.specs.declared.metrics.VerticalTables.{VerticalTables}

-- the bytes of the tables that are there
pub record Vertical : Type 0 where
  pub vhea : Option (List ℕ)
  pub vmtx : Option (List ℕ)
  pub vorg : Option (List ℕ)
  pub outlines : Outlines

abbrev pub vertical_view : VerticalTables → Vertical
vertical_view t =
    record {
      vhea = option_copied t.vhea;
      vmtx = option_copied t.vmtx;
      vorg = option_copied t.vorg;
      outlines = outlines_view t.outlines;
    }

-- ---- "vmtx"

-- numOfLongVerMetrics: for this number of glyphs `vmtx` has an advance height and a top side bearing, for the others a
-- bearing
abbrev pub pair_count : Vertical → ℕ
pair_count t = unwrap_or (field t.vhea 34 2) 0

-- the advance height, which is the last one for the glyphs without one of their own
abbrev pub advance_of : Vertical → ℕ → Option ℕ
advance_of t g = if pair_count t == 0 then None else field t.vmtx (4 * min g (pair_count t - 1)) 2

-- topSideBearing of a glyph in `vmtx`: after its advance height, or alone
abbrev pub bearing_of : Vertical → ℕ → Option ℤ
bearing_of t g = signed_field t.vmtx (if nat_lt g (pair_count t) then 4 * g + 2 else 2 * (pair_count t + g))

-- ---- "VORG"

-- a record: a glyph, and vertOriginY
pub record Origin : Type 0 where
  pub glyph : ℕ
  pub y : ℤ

-- record number k after the header, if the table has it
abbrev pub origin_at : Option (List ℕ) → ℕ → Option Origin
origin_at vorg k =
    option_and_then (λ g. option_map (λ y. record { glyph = g; y = y }) (signed_field vorg (4 * k + 10)))
    (field vorg (4 * k + 8) 2)

-- the y that a record has for a glyph, else that of the later ones
abbrev pub by_record : Option Origin → ℕ → Option ℤ → Option ℤ
by_record None g later = later
by_record (Some o) g later = if o.glyph == g then Some o.y else later

-- the y of a glyph by the next n records, from record k on
abbrev pub origin_from : Option (List ℕ) → ℕ → ℕ → ℕ → Option ℤ
origin_from vorg k zero g = None
origin_from vorg k (suc n) g = by_record (origin_at vorg k) g (origin_from vorg (k + 1) n g)

-- numVertOriginYMetrics
abbrev pub record_count : Option (List ℕ) → ℕ
record_count vorg = unwrap_or (field vorg 6 2) 0

-- vertOriginY of a glyph by all records of `VORG`
abbrev pub origin_of : Option (List ℕ) → ℕ → Option ℤ
origin_of vorg g = origin_from vorg 0 (record_count vorg) g

-- else defaultVertOriginY
abbrev pub vorg_y : Option (List ℕ) → ℕ → Option ℤ
vorg_y vorg g = option_or (origin_of vorg g) (signed_field vorg 4)

-- ---- the column

-- the top of a glyph's box; 0 if it is empty
abbrev pub box_top : Outlines → ℕ → ℤ
box_top t g = option_map_or (λ b. b.y_max) (glyph_box t g) (pos 0)

-- a glyph's top and its top side bearing
abbrev pub by_top : Vertical → ℕ → ℤ → Option ℤ
by_top t g top = option_map (λ b. top +ℤ b) (bearing_of t g)

-- the y by "VORG", with what it varies by, if it does
abbrev pub vorg_y_at : Option (List ℕ) → Option Variation → ℕ → Option ℤ
vorg_y_at vorg None g = vorg_y vorg g
vorg_y_at vorg (Some v) g = option_map (varied_origin v g) (vorg_y vorg g)

-- the y of the origin, in the font's units: of TrueType outlines the top of the box and the top side bearing, those of
-- the default; else by "VORG"; else by the top that is given, if one is
abbrev pub origin_by : Option (List ℕ) → Vertical → Option Variation → Option ℤ → ℕ → Option ℤ
origin_by (Some glyf) t v top g = by_top t g (box_top t.outlines g)
origin_by None t v top g = option_or (vorg_y_at t.vorg v g) (option_and_then (by_top t g) top)

abbrev pub origin_y_at : Vertical → Option Variation → Option ℤ → ℕ → Option ℤ
origin_y_at t v top g = origin_by t.outlines.glyf t v top g

-- half of a width, to the nearest, halves up; as much as 32 bits with a sign hold
abbrev pub half : ℕ → ℤ
half w = pos (min ((w + 1) / 2) (2 ^ 31 - 1))

-- advance and origin in thousandths: an advance goes downwards, and an origin that isn't said is PDF's own, 880
abbrev pub column : ℕ → ℕ → ℕ → Option ℤ → Column
column units w a y =
    record {
      advance = neg_ℤ (thousandths (pos a) units);
      x = half w;
      y = option_map_or (λ v. thousandths v units) y (pos 880);
    }

-- PDF's own column (DW2)
abbrev pub own_column : ℕ → Column
own_column w = record { advance = neg_ℤ (pos 1000); x = half w; y = pos 880 }

-- the advance height with what it varies by, off the default
abbrev pub advance_at : Vertical → Option Variation → ℕ → Option ℕ
advance_at t None g = advance_of t g
advance_at t (Some v) g = option_map (varied_height v g) (advance_of t g)

-- the column of a glyph that has a width, whose top may be given; PDF's own where it has no advance height
abbrev pub metric_at : Vertical → Option Variation → Option ℤ → ℕ → ℕ → Column
metric_at t v top g w =
    option_map_or (λ a. column (units_per_em t.outlines.head) w a (origin_y_at t v top g))
    (advance_at t v g) (own_column w)

-- of each glyph, whose tops are these from a place on, if they are given
abbrev pub columns_from : Vertical → Option Variation → List ℤ → ℕ → List ℕ → List ℕ → List Column
columns_from t v tops k (g ∷ gs) (w ∷ ws) = metric_at t v (slice_get tops k) g w ∷ columns_from t v tops (k + 1) gs ws
columns_from t v tops k _ _ = []

abbrev pub columns_at : Vertical → Option Variation → List ℤ → List ℕ → List ℕ → List Column
columns_at t v tops gs ws = columns_from t v tops 0 gs ws
