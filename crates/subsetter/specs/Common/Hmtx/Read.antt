-- Horizontal metrics of glyphs (OpenType, "hhea" and "hmtx").
use Rattle.std.specs.Prelude.{◌≡◌, ℕ, ◌+◌, ◌-◌, ◌*◌, ◌<◌, ◌≤◌, List, length, take, drop, slice_index, codes, Option}
use Rattle.std.specs.Prelude.{Some, None, IsSome}
use Rattle.subsetter_base.specs.Bytes.{number}
use Rattle.subsetter_base.specs.declared.error.Error.{Error}
use Rattle.subsetter_base.specs.declared.error.Error.TheVariants.{MalformedFont, OverflowError}
use Rattle.subsetter_base.specs.Options.{◌>>=◌}
use Rattle.subsetter_sfnt.specs.Read.{Font, table}
use Rattle.subsetter_sfnt.specs.Fields.Hhea.{number_of_h_metrics}
use Rattle.subsetter_sfnt.specs.Fields.Hmtx.{metric_in}
use Rattle.subsetter_sfnt.specs.declared.fields.hmtx.LongHorMetric.{LongHorMetric}

-- the metric of a glyph, among the tables that a look-up finds
unfoldable pub metric_of : (List ℕ → Option (List ℕ)) → ℕ → Option LongHorMetric
metric_of find g = do
  hhea ← find (codes "hhea")
  hmtx ← find (codes "hmtx")
  count ← number_of_h_metrics hhea
  metric_in hmtx count g

abbrev pub metric : Font → ℕ → Option LongHorMetric
metric font g = metric_of (table font) g

-- both fonts have the metric of their glyph, and they are equal
pub record SameMetric (find out : List ℕ → Option (List ℕ)) (g h : ℕ) : Type 0 where
  pub metric : LongHorMetric
  pub source : metric_of find g ≡ Some metric
  pub copy : metric_of out h ≡ Some metric

-- the tables of a subset have the metrics of its glyphs, with the least number of pairs
pub record KeepsMetrics (find : List ℕ → Option (List ℕ)) (order : List ℕ) (out : List ℕ → Option (List ℕ))
    : Type 0 where
  pub metrics : (i : ℕ) → i < length order → SameMetric find out (slice_index order i) i
  pub header : List ℕ
  pub header_is : find (codes "hhea") ≡ Some header
  pub hhea : List ℕ
  pub hhea_is : out (codes "hhea") ≡ Some hhea
  pub hmtx : List ℕ
  pub hmtx_is : out (codes "hmtx") ≡ Some hmtx
  pub count : ℕ
  pub count_is : number_of_h_metrics hhea ≡ Some count
  pub at_least : 1 ≤ count
  pub at_most : count ≤ length order
  -- no bytes give these metrics by a lesser count
  pub least : (bytes : List ℕ) (c : ℕ)
      → ((i : ℕ) → i < length order → metric_in bytes c i ≡ metric_of find (slice_index order i))
      → count ≤ c
  -- each pair has four bytes, and each bearing two
  pub size : length hmtx ≡ 4 * count + 2 * (length order - count)
  -- `hhea` is the source's but for the count
  pub same_length : length hhea ≡ length header
  pub before : take 34 hhea ≡ take 34 header
  pub after : drop 36 hhea ≡ drop 36 header

-- the faults of metrics, each with its error
pub data HasMetricsFault (find : List ℕ → Option (List ℕ)) (reached : ℕ → Type 0) : Error → Type 0 where
  no_hhea : IsSome (find (codes "hmtx")) → find (codes "hhea") ≡ None → HasMetricsFault find reached MalformedFont
  -- numberOfHMetrics ends at byte 36
  short_hhea : (hhea : List ℕ) → IsSome (find (codes "hmtx")) → find (codes "hhea") ≡ Some hhea → length hhea < 36
      → HasMetricsFault find reached MalformedFont
  no_pairs : (hhea : List ℕ) → IsSome (find (codes "hmtx")) → find (codes "hhea") ≡ Some hhea
      → number_of_h_metrics hhea ≡ Some 0
      → HasMetricsFault find reached OverflowError
  last_advance_outside : (hhea hmtx : List ℕ) (count : ℕ) → find (codes "hmtx") ≡ Some hmtx
      → find (codes "hhea") ≡ Some hhea → number_of_h_metrics hhea ≡ Some count → 0 < count
      → number hmtx (4 * (count - 1)) 2 ≡ None
      → HasMetricsFault find reached MalformedFont
  metric_outside : (g : ℕ) (hhea hmtx : List ℕ) (count : ℕ) → reached g → find (codes "hmtx") ≡ Some hmtx
      → find (codes "hhea") ≡ Some hhea → number_of_h_metrics hhea ≡ Some count → 0 < count
      → metric_in hmtx count g ≡ None
      → HasMetricsFault find reached MalformedFont
