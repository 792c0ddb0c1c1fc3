-- The metrics of glyphs at a location: each advance as HVAR varies it, and the left side bearing of hmtx, which the
-- outline there takes the place of (OpenType, "HVAR" and "hmtx").
use Rattle.std.specs.Prelude.{ℕ, List, [], ◌∷◌, map, slice_get, Option, Some, None, Result, Ok, Err, max, nat_lt}
use Rattle.std.specs.Prelude.{if◌then◌else◌, ℤ, pos}
use Rattle.std.specs.List.{fold, range_with_len}
use Rattle.std.specs.Option.{ok_or, option_and_then, option_map, unwrap_or}
use Rattle.subsetter_base.specs.Bytes.{◌>>=◌}
use Rattle.subsetter_base.specs.Indexes.{index_of}
use Rattle.subsetter_base.specs.declared.error.Error.{Error}
use Rattle.subsetter_base.specs.declared.error.Error.TheVariants.{MalformedFont}
use Rattle.subsetter_sfnt.specs.declared.fields.hmtx.LongHorMetric.{LongHorMetric}
use Rattle.subsetter_instance.specs.Glyphs.Drawn.{advance}
use Rattle.subsetter_cff_instance.specs.Source.{Source, metric}

-- ---- a glyph

-- where there is HVAR it says by how much the advance that hmtx has varies, else that stays; outlines of CFF2 have no
-- phantom points
abbrev pub varied_advance : Option (List ℕ) → List ℤ → ℕ → ℕ → Result ℕ Error
varied_advance None at g before = Ok before
varied_advance (Some hvar) at g before = advance (Some hvar) at g before (pos 0)

-- the metric of a glyph at a location
unfoldable pub varied_metric : Source → List ℤ → ℕ → Result LongHorMetric Error
varied_metric s at g = do
  m ← ok_or (metric s g) MalformedFont
  width ← varied_advance s.hvar at g m.advance_width
  Ok (record { advance_width = width; lsb = m.lsb })

-- each glyph that is asked for is one of the font's
abbrev pub metric_if : Source → List ℤ → ℕ → Result LongHorMetric Error
metric_if s at g = if nat_lt g s.count then varied_metric s at g else Err MalformedFont

-- those of the glyphs that are asked for, in their order
abbrev pub varied_metrics : Source → List ℤ → List ℕ → Result (List LongHorMetric) Error
varied_metrics s at [] = Ok []
varied_metrics s at (g ∷ glyphs) = do
  m ← metric_if s at g
  rest ← varied_metrics s at glyphs
  Ok (m ∷ rest)

-- ---- of all glyphs

-- the metric of a glyph, if it was asked for
abbrev pub metric_among : List ℕ → List LongHorMetric → ℕ → Option LongHorMetric
metric_among glyphs metrics g = option_and_then (slice_get metrics) (index_of glyphs g)

-- the same of each of n glyphs
abbrev pub metrics_by_glyph : List ℕ → List LongHorMetric → ℕ → List (Option LongHorMetric)
metrics_by_glyph glyphs metrics n = map (metric_among glyphs metrics) (range_with_len 0 n)

-- the advances of the glyphs that were asked for
abbrev pub advances : List (Option LongHorMetric) → List (Option ℕ)
advances all = map (option_map (λ m. m.advance_width)) all

-- 0 and 0 for a glyph that wasn't asked for
abbrev pub no_metric : LongHorMetric
no_metric = record { advance_width = 0; lsb = 0 }

abbrev pub filled : List (Option LongHorMetric) → List LongHorMetric
filled all = map (λ m. unwrap_or m no_metric) all

-- advanceWidthMax: the greatest advance
abbrev pub widest : List LongHorMetric → ℕ
widest metrics = fold max 0 (map (λ m. m.advance_width) metrics)
