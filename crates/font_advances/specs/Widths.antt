-- Advance widths of glyphs at coordinates, in the font's units (OpenType, "hhea", "hmtx", "maxp", "HVAR" and "gvar").
use Rattle.std.specs.Prelude.{ℕ, ◌==◌, is_some, nat_lt, if◌then◌else◌, List, [], ◌∷◌, length, codes, Option, Some, None}
use Rattle.std.specs.Prelude.{Result, Ok, Err, ℤ, ◌-ℤ◌}
use Rattle.std.specs.Option.{ok_or, option_map}
use Rattle.subsetter_base.specs.Bytes.{◌>>=◌}
use Rattle.subsetter_base.specs.declared.tag.Tag.{Tag}
use Rattle.subsetter_base.specs.declared.error.Error.{Error}
use Rattle.subsetter_base.specs.declared.error.Error.TheVariants.{UnknownKind, MalformedFont, OverflowError}
use Rattle.subsetter_sfnt.specs.Fields.Hhea.{number_of_h_metrics}
use Rattle.subsetter_sfnt.specs.Fields.Hmtx.{metric_in}
use Rattle.subsetter_sfnt.specs.declared.fields.hmtx.LongHorMetric.{LongHorMetric}
use Rattle.subsetter_instance.specs.Glyphs.Drawn.{advance, levels}
use Rattle.subsetter_instance.specs.Glyphs.Unfolded.{unfolded}
use Rattle.subsetter_instance.specs.Source.{Source, metric, normalized_coordinates, source_or_fault}
use Rattle.subsetter_cff_instance.specs.Metrics.{varied_advance}
use Rattle.subsetter_cff_instance.specs.Source.{Source as BlendedSource, metric as blended_metric}
use Rattle.subsetter_cff_instance.specs.Source.{source_or_fault as blended_source_or_fault}
use Rattle.pdf_source.specs.Moved.{are_zero}
use Rattle.font_advances.specs.declared.widths.Metrics.{Metrics as GivenMetrics}
use Rattle.font_advances.specs.declared.widths.Outlines.{Outlines}
use Rattle.font_advances.specs.declared.widths.Outlines.TheVariants.{Glyf, Cff, Cff2}

-- the widths of glyphs, in their order, up to the first that has none
abbrev pub each : (ℕ → Result ℕ Error) → List ℕ → Result (List ℕ) Error
each width [] = Ok []
each width (g ∷ glyphs) = do
  first ← width g
  others ← each width glyphs
  Ok (first ∷ others)

-- the advance of a metric that is there
abbrev pub advance_or_fault : Option LongHorMetric → Result ℕ Error
advance_or_fault m = ok_or (option_map (λ it. it.advance_width) m) MalformedFont

-- ---- a font that is taken as it is

-- `hmtx`, and how many pairs it begins with: numberOfHMetrics
pub record Metrics : Type 0 where
  pub hmtx : List ℕ
  pub pairs : ℕ

abbrev pub metrics_seen : GivenMetrics → Metrics
metrics_seen m = record { hmtx = m.hmtx.now; pairs = m.pairs }

abbrev pub if_pairs : ℕ → Result ℕ Error
if_pairs pairs = if pairs == 0 then Err OverflowError else Ok pairs

unfoldable pub metrics_in : (List ℕ → Option (List ℕ)) → Result Metrics Error
metrics_in find = do
  hmtx ← ok_or (find (codes "hmtx")) MalformedFont
  hhea ← ok_or (find (codes "hhea")) MalformedFont
  found ← ok_or (number_of_h_metrics hhea) MalformedFont
  pairs ← if_pairs found
  Ok (record { hmtx = hmtx; pairs = pairs })

abbrev pub still_width : Metrics → ℕ → Result ℕ Error
still_width m g = advance_or_fault (metric_in m.hmtx m.pairs g)

unfoldable pub still_widths : (List ℕ → Option (List ℕ)) → List ℕ → Result (List ℕ) Error
still_widths find glyphs = metrics_in find >>= λ m. each (still_width m) glyphs

-- ---- outlines in glyf, off the font's default

-- the distance between the left and the right phantom point, where `gvar` and components that lend their metrics put
-- them
unfoldable pub phantom_width : Source → List ℤ → ℕ → ℕ → Result ℕ Error
phantom_width s at steps g = do
  u ← unfolded levels s at steps g
  advance None at g 0 (u.0.right -ℤ u.0.left)

-- by HVAR the advance of hmtx with what it varies by, without it by the phantom points
abbrev pub width_by : Option (List ℕ) → Source → List ℤ → ℕ → ℕ → Result ℕ Error
width_by None s at steps g = phantom_width s at steps g
width_by (Some hvar) s at steps g = advance_or_fault (metric s g) >>= λ before. varied_advance (Some hvar) at g before

-- of a glyph that maxp counts
abbrev pub moved_width : Source → List ℤ → ℕ → ℕ → Result ℕ Error
moved_width s at steps g = if nat_lt g s.count then width_by s.hvar s at steps g else Err MalformedFont

unfoldable pub moved_widths : (List ℕ → Option (List ℕ)) → List ℤ → ℕ → List ℕ → Result (List ℕ) Error
moved_widths find at steps glyphs = source_or_fault find (length at) >>= λ s. each (moved_width s at steps) glyphs

-- at its default a font is taken as it is
unfoldable pub glyf_widths : (List ℕ → Option (List ℕ)) → List (Tag × ℤ) → ℕ → List ℕ → Result (List ℕ) Error
glyf_widths find settings steps glyphs = do
  at ← normalized_coordinates find settings
  if are_zero at then still_widths find glyphs else moved_widths find at steps glyphs

-- ---- outlines in CFF2, which have no phantom points

abbrev pub blended_width : BlendedSource → List ℤ → ℕ → Result ℕ Error
blended_width s at g =
    if nat_lt g s.count then (advance_or_fault (blended_metric s g) >>= λ before. varied_advance s.hvar at g before)
    else Err MalformedFont

unfoldable pub blended_widths : (List ℕ → Option (List ℕ)) → List (Tag × ℤ) → List ℕ → Result (List ℕ) Error
blended_widths find settings glyphs = do
  at ← normalized_coordinates find settings
  s ← blended_source_or_fault find
  each (blended_width s at) glyphs

-- ---- of a font

-- the outlines that are taken, where it has several kinds
unfoldable pub outlines_in : (List ℕ → Option (List ℕ)) → Result Outlines Error
outlines_in find =
    if is_some (find (codes "glyf")) then Ok Glyf
    else (if is_some (find (codes "CFF ")) then Ok Cff
    else (if is_some (find (codes "CFF2")) then Ok Cff2 else Err UnknownKind))

-- each glyph's, where a glyph of glyf may take `steps` steps; outlines of CFF don't move along axes
abbrev pub widths_of : Outlines → (List ℕ → Option (List ℕ)) → List (Tag × ℤ) → ℕ → List ℕ → Result (List ℕ) Error
widths_of Glyf find settings steps glyphs = glyf_widths find settings steps glyphs
widths_of Cff find settings steps glyphs = still_widths find glyphs
widths_of Cff2 find settings steps glyphs = blended_widths find settings glyphs
