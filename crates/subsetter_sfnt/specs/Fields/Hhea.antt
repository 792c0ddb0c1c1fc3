-- The fields that are read of `hhea`, and what is written anew (OpenType, "hhea - Horizontal Header Table").
use Rattle.std.specs.Prelude.{ℕ, List, ◌++◌, take, drop, slice_range, Option, ℤ}
use Rattle.std.specs.Int.{w16, to_be_bytes}
use Rattle.subsetter_base.specs.Bytes.{number, signed_field}

abbrev pub ascender : Option (List ℕ) → Option ℤ
ascender hhea = signed_field hhea 4

abbrev pub descender : Option (List ℕ) → Option ℤ
descender hhea = signed_field hhea 6

-- numberOfHMetrics, at byte 34
abbrev pub number_of_h_metrics : List ℕ → Option ℕ
number_of_h_metrics hhea = number hhea 34 2

-- ---- written

-- `hhea` with extremes in advanceWidthMax, minLeftSideBearing, minRightSideBearing and xMaxExtent (bytes 10 to 18), and
-- with numberOfHMetrics (34 to 36)
abbrev pub hhea_with : List ℕ → ℕ → List ℕ → List ℕ
hhea_with extremes count hhea =
    (take 10 hhea ++ extremes ++ slice_range hhea 18 34) ++ to_be_bytes w16 count ++ drop 36 hhea
