-- The faults of the tables that an instance is made from, each with its error (OpenType, "head", "hhea", "hmtx",
-- "maxp", "loca", "glyf", "gvar", "HVAR" and "MVAR").
use Rattle.std.specs.Prelude.{◌≡◌, ◌≢◌, ◌<◌, ℕ, ◌+◌, ◌*◌, ◌%◌, ◌==◌, List, length, codes, Option, Some, None}
use Rattle.std.specs.Prelude.{if◌then◌else◌}
use Rattle.subsetter_base.specs.Bytes.{number}
use Rattle.subsetter_base.specs.declared.error.Error.{Error}
use Rattle.subsetter_base.specs.declared.error.Error.TheVariants.{Unimplemented}
use Rattle.subsetter_variation.specs.Glyphs.Tuples.{tuple_size}
use Rattle.subsetter_instance.specs.Faults.CoordinatesFault.{HasOtherVersion}

-- gvar, HVAR or MVAR has another major version than 1
pub data HasVersionFault (find : List ℕ → Option (List ℕ)) : Error → Type 0 where
  other_gvar : HasOtherVersion find (codes "gvar") → HasVersionFault find Unimplemented
  other_hvar : HasOtherVersion find (codes "HVAR") → HasVersionFault find Unimplemented
  other_mvar : HasOtherVersion find (codes "MVAR") → HasVersionFault find Unimplemented

-- of gvar, in a font with `axes` axes. Its bytes 4 on are axisCount, sharedTupleCount and, of four bytes,
-- sharedTuplesOffset, then glyphCount, flags and, of four bytes, glyphVariationDataArrayOffset
pub data HasGvarFault (axes : ℕ) (gvar : List ℕ) : Type 0 where
  -- it ends before the end of its header
  cut_gvar : length gvar < 20 → HasGvarFault axes gvar
  -- axisCount isn't that of fvar
  other_axes : (axis_count : ℕ) → number gvar 4 2 ≡ Some axis_count → axis_count ≢ axes → HasGvarFault axes gvar
  -- the shared tuples go past its end
  cut_shared : (axis_count count at : ℕ) → number gvar 4 2 ≡ Some axis_count → number gvar 6 2 ≡ Some count
      → number gvar 8 4 ≡ Some at → length gvar < at + count * tuple_size axis_count
      → HasGvarFault axes gvar
  -- the offsets go past its end: one more than glyphs, of four bytes where bit 0 of the flags is set, else of two
  cut_offsets : (glyph_count flags : ℕ) → number gvar 12 2 ≡ Some glyph_count → number gvar 14 2 ≡ Some flags
      → length gvar < 20 + (glyph_count + 1) * (if flags % 2 == 1 then 4 else 2)
      → HasGvarFault axes gvar
  -- glyphVariationDataArrayOffset is past its end
  far_variations : (at : ℕ) → number gvar 16 4 ≡ Some at → length gvar < at → HasGvarFault axes gvar

-- of the tables that a look-up finds, for `axes` axes
pub data HasSourceFault (find : List ℕ → Option (List ℕ)) (axes : ℕ) : Type 0 where
  no_glyf : find (codes "glyf") ≡ None → HasSourceFault find axes
  no_loca : find (codes "loca") ≡ None → HasSourceFault find axes
  no_head : find (codes "head") ≡ None → HasSourceFault find axes
  no_maxp : find (codes "maxp") ≡ None → HasSourceFault find axes
  no_hhea : find (codes "hhea") ≡ None → HasSourceFault find axes
  no_hmtx : find (codes "hmtx") ≡ None → HasSourceFault find axes
  -- head ends before the end of indexToLocFormat, maxp of numGlyphs, hhea of numberOfHMetrics
  cut_head : (head : List ℕ) → find (codes "head") ≡ Some head → length head < 52 → HasSourceFault find axes
  cut_maxp : (maxp : List ℕ) → find (codes "maxp") ≡ Some maxp → length maxp < 6 → HasSourceFault find axes
  cut_hhea : (hhea : List ℕ) → find (codes "hhea") ≡ Some hhea → length hhea < 36 → HasSourceFault find axes
  in_gvar : (gvar : List ℕ) → find (codes "gvar") ≡ Some gvar → HasGvarFault axes gvar → HasSourceFault find axes
