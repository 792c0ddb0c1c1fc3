-- `hhea` and `hmtx` of a subset, from the metrics of its glyphs (OpenType, "hhea" and "hmtx"), and the plain way to
-- them.
use Rattle.std.specs.Prelude.{ℕ, ◌+◌, ◌-◌, ◌*◌, Bool, true, ◌&&◌, List, [], ◌∷◌, slice_range, codes, Option, Some, None}
use Rattle.std.specs.Prelude.{Result, Ok, Err, ◌==◌, if◌then◌else◌}
use Rattle.std.specs.Option.{ok_or}
use Rattle.subsetter_base.specs.Bytes.{number, ◌>>=◌}
use Rattle.subsetter_base.specs.declared.error.Error.{Error}
use Rattle.subsetter_base.specs.declared.error.Error.TheVariants.{MalformedFont, OverflowError}
use Rattle.subsetter_sfnt.specs.Fields.Hmtx.{metric_in, hmtx_bytes}
use Rattle.subsetter_sfnt.specs.Fields.Hhea.{number_of_h_metrics, hhea_with}
use Rattle.subsetter_sfnt.specs.declared.fields.hmtx.LongHorMetric.{LongHorMetric}

-- the bytes of the two tables
pub record MetricBytes : Type 0 where
  pub hhea : List ℕ
  pub hmtx : List ℕ

-- each has that advance
abbrev pub all_advance : ℕ → List LongHorMetric → Bool
all_advance advance [] = true
all_advance advance (m ∷ ms) = (m.advance_width == advance) && all_advance advance ms

-- the glyphs up to the first after which all share its advance need a pair
abbrev pub least_count : List LongHorMetric → ℕ
least_count [] = 0
least_count (m ∷ ms) = if all_advance m.advance_width ms then 1 else 1 + least_count ms

-- `hhea` with the extremes that it has (bytes 10 to 18)
unfoldable pub hhea_bytes : ℕ → List ℕ → List ℕ
hhea_bytes count hhea = hhea_with (slice_range hhea 10 18) count hhea

-- ---- from the source's tables

-- how many pairs there are, at least one
abbrev pub if_pairs : ℕ → Result ℕ Error
if_pairs count = if count == 0 then Err OverflowError else Ok count

-- the metrics of glyphs
abbrev pub metrics_all : List ℕ → ℕ → List ℕ → Result (List LongHorMetric) Error
metrics_all hmtx count [] = Ok []
metrics_all hmtx count (g ∷ gs) = do
  m ← ok_or (metric_in hmtx count g) MalformedFont
  ms ← metrics_all hmtx count gs
  Ok (m ∷ ms)

-- how many pairs the source has, of which the last has its advance
unfoldable pub source_count : List ℕ → List ℕ → Result ℕ Error
source_count hhea hmtx = do
  found ← ok_or (number_of_h_metrics hhea) MalformedFont
  count ← if_pairs found
  advance ← ok_or (number hmtx (4 * (count - 1)) 2) MalformedFont
  Ok count

unfoldable pub tables_of : Option (List ℕ) → List ℕ → List ℕ → Result MetricBytes Error
tables_of hhea hmtx order = do
  header ← ok_or hhea MalformedFont
  count ← source_count header hmtx
  ms ← metrics_all hmtx count order
  let n = least_count ms in Ok (record { hhea = hhea_bytes n header; hmtx = hmtx_bytes n ms })

-- nothing without `hmtx`
unfoldable pub metrics_in : Option (List ℕ) → Option (List ℕ) → List ℕ → Result (Option MetricBytes) Error
metrics_in hhea None order = Ok None
metrics_in hhea (Some hmtx) order = do
  tables ← tables_of hhea hmtx order
  Ok (Some tables)

-- `hhea` and `hmtx` of a subset, from the tables that a look-up finds
abbrev pub metrics_of : (List ℕ → Option (List ℕ)) → List ℕ → Result (Option MetricBytes) Error
metrics_of find order = metrics_in (find (codes "hhea")) (find (codes "hmtx")) order
