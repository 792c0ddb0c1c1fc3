-- The font header (OpenType, "head").
use Rattle.std.specs.Prelude.{◌≡◌, List, ℕ, length, take, drop, slice_range, codes, Some}
use Rattle.subsetter_sfnt.specs.Read.{Font, table}

-- head is the source's but for checksumAdjustment (bytes 8..12) and indexToLocFormat (bytes 50..52)
pub record KeepsHead (font out : Font) : Type 0 where
  pub source : List ℕ
  pub source_is : table font (codes "head") ≡ Some source
  pub copy : List ℕ
  pub copy_is : table out (codes "head") ≡ Some copy
  pub same_length : length copy ≡ length source
  pub front : take 8 copy ≡ take 8 source
  pub middle : slice_range copy 12 50 ≡ slice_range source 12 50
  pub end : drop 52 copy ≡ drop 52 source
