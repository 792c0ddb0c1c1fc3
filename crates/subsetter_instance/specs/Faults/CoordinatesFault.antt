-- The faults of a font in the coordinates of an instance, each with its error (OpenType, "fvar" and "avar").
use Rattle.std.specs.Prelude.{◌≡◌, ◌≢◌, ◌<◌, ℕ, suc, ◌+◌, ◌*◌, List, length, codes, Option, Some, IsSome}
use Rattle.subsetter_base.specs.Bytes.{number}
use Rattle.subsetter_base.specs.declared.error.Error.{Error}
use Rattle.subsetter_base.specs.declared.error.Error.TheVariants.{MalformedFont, Unimplemented}

-- a table has another major version than 1
pub record HasOtherVersion (find : List ℕ → Option (List ℕ)) (tag : List ℕ) : Type 0 where
  pub table : List ℕ
  pub table_is : find tag ≡ Some table
  pub version : ℕ
  pub version_is : number table 0 2 ≡ Some version
  pub other : version ≢ 1

-- of the axes in fvar, whose axesArrayOffset, axisCount and axisSize are its bytes 4, 8 and 10
pub data HasAxesFault (fvar : List ℕ) : Type 0 where
  -- it ends before the end of axisSize
  cut_fvar : length fvar < 12 → HasAxesFault fvar
  -- axisSize is less than 20
  short_axis : (size : ℕ) → number fvar 10 2 ≡ Some size → size < 20 → HasAxesFault fvar
  -- the record of an axis, the one numbered k, goes past the end
  cut_axis : (at count size k : ℕ) → number fvar 4 2 ≡ Some at → number fvar 8 2 ≡ Some count
      → number fvar 10 2 ≡ Some size → k < count → length fvar < at + k * size + size
      → HasAxesFault fvar

-- of the segment maps of the next n axes, which begin at this offset
pub data HasSegmentFault (avar : List ℕ) : ℕ → ℕ → Type 0 where
  -- positionMapCount of the first goes past the end
  cut_count : (n at : ℕ) → length avar < at + 2 → HasSegmentFault avar (suc n) at
  -- the maps after it go past the end, four bytes each
  cut_map : (n at count : ℕ) → number avar at 2 ≡ Some count → length avar < at + 2 + count * 4
      → HasSegmentFault avar (suc n) at
  -- those of an axis after it
  later_map : (n at count : ℕ) → number avar at 2 ≡ Some count → HasSegmentFault avar n (at + 2 + count * 4)
      → HasSegmentFault avar (suc n) at

-- of the segment maps in avar, for `axis_count` axes of fvar; axisCount is its bytes 6 and 7
pub data HasAvarFault (axis_count : ℕ) (avar : List ℕ) : Type 0 where
  -- it ends before the end of axisCount
  cut_avar : length avar < 8 → HasAvarFault axis_count avar
  -- axisCount isn't that of fvar
  other_axis_count : (count : ℕ) → number avar 6 2 ≡ Some count → count ≢ axis_count → HasAvarFault axis_count avar
  in_segments : HasSegmentFault avar axis_count 8 → HasAvarFault axis_count avar

-- of the tables that a look-up finds; without fvar there are no axes, and avar isn't looked at
pub data HasCoordinatesFault (find : List ℕ → Option (List ℕ)) : Error → Type 0 where
  -- fvar or avar has another major version than 1
  other_fvar : HasOtherVersion find (codes "fvar") → HasCoordinatesFault find Unimplemented
  other_avar : IsSome (find (codes "fvar")) → HasOtherVersion find (codes "avar")
      → HasCoordinatesFault find Unimplemented
  in_axes : (fvar : List ℕ) → find (codes "fvar") ≡ Some fvar → HasAxesFault fvar
      → HasCoordinatesFault find MalformedFont
  in_avar : (fvar avar : List ℕ) (axis_count : ℕ) → find (codes "fvar") ≡ Some fvar → find (codes "avar") ≡ Some avar
      → number fvar 8 2 ≡ Some axis_count → HasAvarFault axis_count avar
      → HasCoordinatesFault find MalformedFont
