-- The faults of the metrics of `hhea` and `post` that vary, each with its error (OpenType, "MVAR", "hhea" and "post").
use Rattle.std.specs.Prelude.{◌≡◌, ◌≤◌, ℕ, ◌^◌, false, List, length, codes, Option, Some, Ok, ℤ, ◌+ℤ◌, unsigned_abs}
use Rattle.subsetter_base.specs.declared.error.Error.{Error}
use Rattle.subsetter_base.specs.declared.error.Error.TheVariants.{MalformedFont, OverflowError}
use Rattle.subsetter_points.specs.Simple.{has_16_bits}
use Rattle.subsetter_variation.specs.Items.FontMetrics.{metric_delta}
use Rattle.subsetter_variation.specs.Items.ItemVariations.{whole_or_fault}
use Rattle.subsetter_base.specs.Bytes.{signed_at}
use Rattle.subsetter_instance.specs.Faults.ItemFault.{HasMvarFault}

-- the metrics of hhea that vary: their tags, and their offsets in the table
pub data IsLineOfHhea : List ℕ → ℕ → Type 0 where
  ascender : IsLineOfHhea (codes "hasc") 4
  descender : IsLineOfHhea (codes "hdsc") 6
  line_gap : IsLineOfHhea (codes "hlgp") 8
  caret_slope_rise : IsLineOfHhea (codes "hcrs") 18
  caret_slope_run : IsLineOfHhea (codes "hcrn") 20
  caret_offset : IsLineOfHhea (codes "hcof") 22

-- the metrics of post that vary: tag and offset
pub data IsLineOfPost : List ℕ → ℕ → Type 0 where
  underline_position : IsLineOfPost (codes "undo") 8
  underline_thickness : IsLineOfPost (codes "unds") 10

-- of the metric of a tag, which a table has at this offset
pub data HasMetricFault (mvar : List ℕ) (at : List ℤ) (tag table : List ℕ) (offset : ℕ) : Error → Type 0 where
  in_mvar : HasMvarFault mvar (length at) tag → HasMetricFault mvar at tag table offset MalformedFont
  -- it varies by 2 ^ 32 units or more
  large_delta : (d : ℤ) → metric_delta mvar at tag ≡ Some d → 2 ^ 62 ≤ unsigned_abs d
      → HasMetricFault mvar at tag table offset OverflowError
  -- it has no 16 bits, as it varies
  wide_metric : (d : ℤ) → whole_or_fault (metric_delta mvar at tag) ≡ Ok d
      → has_16_bits (signed_at table offset +ℤ d) ≡ false
      → HasMetricFault mvar at tag table offset OverflowError

-- of the tables that a look-up finds; without MVAR nothing varies, and a post that ends before underlineThickness does
-- stays
pub data HasLinesFault (find : List ℕ → Option (List ℕ)) (at : List ℤ) : Error → Type 0 where
  in_hhea : {e : Error} (mvar hhea tag : List ℕ) (offset : ℕ) → find (codes "MVAR") ≡ Some mvar
      → find (codes "hhea") ≡ Some hhea → IsLineOfHhea tag offset → HasMetricFault mvar at tag hhea offset e
      → HasLinesFault find at e
  in_post : {e : Error} (mvar post tag : List ℕ) (offset : ℕ) → find (codes "MVAR") ≡ Some mvar
      → find (codes "post") ≡ Some post → 12 ≤ length post → IsLineOfPost tag offset
      → HasMetricFault mvar at tag post offset e
      → HasLinesFault find at e
