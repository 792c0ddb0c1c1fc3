-- Metrics of glyphs, read and written (OpenType, "hmtx - Horizontal Metrics Table").
use Rattle.std.specs.Prelude.{ℕ, ◌+◌, ◌-◌, ◌*◌, min, List, ◌++◌, take, drop, Option, Some, None, nat_lt, ◌==◌}
use Rattle.std.specs.Prelude.{if◌then◌else◌}
use Rattle.std.specs.List.{flat_map}
use Rattle.std.specs.Int.{w16, to_be_bytes}
use Rattle.subsetter_base.specs.Bytes.{number}
use Rattle.subsetter_base.specs.Options.{◌>>=◌}
use Rattle.subsetter_sfnt.specs.declared.fields.hmtx.LongHorMetric.{LongHorMetric}

-- an advance and a bearing at two places
abbrev pub metric_at : List ℕ → ℕ → ℕ → Option LongHorMetric
metric_at hmtx advance_at bearing_at = do
  advance ← number hmtx advance_at 2
  bearing ← number hmtx bearing_at 2
  Some (record { advance_width = advance; lsb = bearing })

-- longHorMetric pairs come first, for as many glyphs as the count says; then bearings alone, which share the last
-- pair's advance
unfoldable pub metric_in : List ℕ → ℕ → ℕ → Option LongHorMetric
metric_in hmtx count g =
    if nat_lt g count then metric_at hmtx (4 * g) (4 * g + 2)
    else (if count == 0 then None else metric_at hmtx (4 * (count - 1)) (4 * count + 2 * (g - count)))

-- the advance of a glyph: that of its own pair, and past the pairs that of the last
abbrev pub advance_in : List ℕ → ℕ → ℕ → Option ℕ
advance_in hmtx pairs g = number hmtx (4 * min g (pairs - 1)) 2

-- ---- written

-- a longHorMetric: advanceWidth and lsb
abbrev pub metric_bytes : LongHorMetric → List ℕ
metric_bytes m = to_be_bytes w16 m.advance_width ++ to_be_bytes w16 m.lsb

abbrev pub bearing_bytes : LongHorMetric → List ℕ
bearing_bytes m = to_be_bytes w16 m.lsb

-- `count` longHorMetrics, then bearings alone
unfoldable pub hmtx_bytes : ℕ → List LongHorMetric → List ℕ
hmtx_bytes count ms = flat_map metric_bytes (take count ms) ++ flat_map bearing_bytes (drop count ms)
