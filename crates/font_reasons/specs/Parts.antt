-- What is wrong with one part of a face: a glyph, a table, metrics.
use Rattle.std.specs.Prelude.{ℕ, ◌-◌, ◌*◌, ◌==◌, nat_le, if◌then◌else◌, List, [], ◌∷◌, Option, Some, None, codes}
use Rattle.std.specs.Option.{option_and_then, option_map}
use Rattle.subsetter_base.specs.Bytes.{number}
use Rattle.subsetter_base.specs.declared.tag.Tag.{Tag}
use Rattle.subsetter_sfnt.specs.Fields.Hhea.{number_of_h_metrics}
use Rattle.subsetter_sfnt.specs.Fields.Hmtx.{metric_in}
use Rattle.subsetter_sfnt.specs.Fields.Maxp.{num_glyphs}
use Rattle.subsetter_sfnt.specs.declared.fields.hmtx.LongHorMetric.{LongHorMetric}
use Rattle.subsetter_sfnt.specs.Read.{Font, stored}
use Rattle.subsetter_sfnt.specs.Alone.{bitmaps_alone, has_outlines}
use Rattle.font_reasons.specs.File.{or_else, cut_table, missing_table}
use Rattle.font_reasons.specs.declared.reason.Reason.{Reason}
use Rattle.font_reasons.specs.declared.reason.Reason.TheVariants.{NoGlyph, NoOutlines, BitmapsAlone, NoMetrics}
use Rattle.font_reasons.specs.declared.reason.Reason.TheVariants.{FewMetrics, NoMetric}

-- numGlyphs of `maxp` (OpenType, "maxp")
abbrev pub face_glyphs : Font → Option ℕ
face_glyphs font = option_and_then num_glyphs (stored font (codes "maxp"))

-- the first of the glyphs that a face of this many glyphs doesn't have
abbrev pub first_past : ℕ → List ℕ → Option ℕ
first_past count [] = None
first_past count (g ∷ glyphs) = if nat_le count g then Some g else first_past count glyphs

abbrev pub no_glyph : Font → List ℕ → Option Reason
no_glyph font glyphs =
    option_and_then (λ count. option_map (λ g. NoGlyph g count) (first_past count glyphs)) (face_glyphs font)

-- a face without a table
abbrev pub without : Font → Tag → Option (List ℕ) → Option Reason
without font tag None = Some (missing_table font tag)
without font tag (Some bytes) = None

abbrev pub no_table : Font → Tag → Option Reason
no_table font tag = without font tag (stored font tag.0)

-- numberOfHMetrics is at byte 34 of `hhea`, and `hmtx` has four bytes for each (OpenType, "hhea" and "hmtx"): more than
-- are there
abbrev pub few_metrics_by : ℕ → Option ℕ → Option Reason
few_metrics_by count None = Some (FewMetrics count)
few_metrics_by count (Some advance) = None

abbrev pub wrong_count : List ℕ → ℕ → Option Reason
wrong_count hmtx count = if count == 0 then None else few_metrics_by count (number hmtx (4 * (count - 1)) 2)

abbrev pub wrong_metrics_of : List ℕ → List ℕ → Option Reason
wrong_metrics_of hhea hmtx = option_and_then (wrong_count hmtx) (number hhea 34 2)

abbrev pub wrong_metrics_by : Font → List ℕ → Option (List ℕ) → Option Reason
wrong_metrics_by font hmtx (Some hhea) = wrong_metrics_of hhea hmtx
wrong_metrics_by font hmtx None = Some (missing_table font (record { 0 = codes "hhea" }))

abbrev pub wrong_metrics : Font → Option Reason
wrong_metrics font =
    option_and_then (λ hmtx. wrong_metrics_by font hmtx (stored font (codes "hhea"))) (stored font (codes "hmtx"))

-- none, which is an overflow where the font isn't moved along axes
abbrev pub if_none : ℕ → Option Reason
if_none count = if count == 0 then Some NoMetrics else None

abbrev pub pair_count : Font → Option ℕ
pair_count font = option_and_then number_of_h_metrics (stored font (codes "hhea"))

abbrev pub no_pairs : Font → Option Reason
no_pairs font = option_and_then (λ hmtx. option_and_then if_none (pair_count font)) (stored font (codes "hmtx"))

-- the first glyph whose metric `hmtx` doesn't have
abbrev pub no_metric_by : ℕ → Option LongHorMetric → Option Reason
no_metric_by g None = Some (NoMetric g)
no_metric_by g (Some metric) = None

abbrev pub no_metric_of : List ℕ → ℕ → ℕ → Option Reason
no_metric_of hmtx count g = no_metric_by g (metric_in hmtx count g)

abbrev pub first_without_metric : List ℕ → ℕ → List ℕ → Option Reason
first_without_metric hmtx count [] = None
first_without_metric hmtx count (g ∷ glyphs) =
    or_else (no_metric_of hmtx count g) (first_without_metric hmtx count glyphs)

abbrev pub without_metric : List ℕ → List ℕ → ℕ → Option Reason
without_metric hmtx glyphs count = or_else (if_none count) (first_without_metric hmtx count glyphs)

abbrev pub no_metric : Font → List ℕ → Option Reason
no_metric font glyphs =
    option_and_then (λ hmtx. option_and_then (without_metric hmtx glyphs) (pair_count font)) (stored font (codes "hmtx"))

-- none of the tables that have outlines: one of them is cut, or the face has bitmaps, or these are cut, or it has none
unfoldable pub cut_outlines : Font → Option Reason
cut_outlines font =
    or_else (cut_table font (record { 0 = codes "glyf" }))
    (or_else (cut_table font (record { 0 = codes "CFF " })) (cut_table font (record { 0 = codes "CFF2" })))

abbrev pub cut_pair : Font → Tag → Tag → Option Reason
cut_pair font bitmaps places = or_else (cut_table font bitmaps) (cut_table font places)

unfoldable pub cut_bitmaps : Font → Option Reason
cut_bitmaps font =
    or_else (cut_pair font (record { 0 = codes "CBDT" }) (record { 0 = codes "CBLC" }))
    (or_else (cut_table font (record { 0 = codes "sbix" }))
    (cut_pair font (record { 0 = codes "EBDT" }) (record { 0 = codes "EBLC" })))

unfoldable pub bare : Font → Option Reason
bare font =
    or_else (cut_outlines font)
    (or_else (option_map BitmapsAlone (bitmaps_alone font)) (or_else (cut_bitmaps font) (Some NoOutlines)))

abbrev pub no_outlines : Font → Option Reason
no_outlines font = if has_outlines (stored font) then None else bare font
