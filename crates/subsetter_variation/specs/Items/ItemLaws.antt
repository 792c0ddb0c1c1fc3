-- Laws of what items of `HVAR` and `MVAR` vary by, at the default and at a master.
use Rattle.std.specs.Prelude.{◌≡◌, ◌<◌, ◌*◌, ◌^◌, ◌==◌, ◌&&◌, ℕ, ℤ, pos, ◌*ℤ◌, unsigned_abs, false, List, length, Some}
use Rattle.std.specs.Prelude.{Ok, All}
use Rattle.subsetter_base.specs.Bytes.{number}
use Rattle.subsetter_base.specs.Items.{Items}
use Rattle.subsetter_variation.specs.Region.{scalar, unit}
use Rattle.subsetter_variation.specs.Items.ItemVariations.{Row, Store, delta, item_delta, item_row, region_items}
use Rattle.subsetter_variation.specs.Items.ItemVariations.{region_of, whole_or_fault}
use Rattle.subsetter_variation.specs.VariationLaws.{HasAxis}

-- the region numbered k of a row
pub record IsRegion (s : Store) (r : Row) (k : ℕ) (region : Items) : Type 0 where
  pub index : ℕ
  pub index_is : number r.indexes (k * 2) 2 ≡ Some index
  pub region_is : region_items s index ≡ Some region

-- each region of a row is on `axes` axes, one of which isn't ignored
abbrev pub HasBoundRegions : Store → Row → ℕ → Type 0
HasBoundRegions s r axes =
    (k : ℕ) (region : Items) → IsRegion s r k region → (length (region_of region) ≡ axes) × HasAxis (region_of region)

-- at the default an item varies by nothing
abbrev pub IsItemAtDefault : Type 0
IsItemAtDefault =
    (s : Store) (at : List ℤ) (outer inner : ℕ) (r : Row) (v : ℤ) → All (λ c. c ≡ pos 0) at
    → item_row s outer inner ≡ Some r → HasBoundRegions s r (length at) → item_delta s at outer inner ≡ Some v
    → v ≡ pos 0

-- at a location the region numbered k counts in full, and no other one counts
pub record IsMaster (s : Store) (at : List ℤ) (r : Row) (k : ℕ) : Type 0 where
  pub there : k < r.count
  pub full : (region : Items) → IsRegion s r k region → scalar (region_of region) at ≡ unit
  pub others : (i : ℕ) (region : Items) → (i ≡ k → ⊥) → IsRegion s r i region → scalar (region_of region) at ≡ pos 0

-- at a master an item varies by exactly its delta for it
abbrev pub IsItemAtMaster : Type 0
IsItemAtMaster =
    (s : Store) (at : List ℤ) (outer inner : ℕ) (r : Row) (k : ℕ) (d v : ℤ) → (outer == 65535 && inner == 65535) ≡ false
    → item_row s outer inner ≡ Some r → IsMaster s at r k → delta r k ≡ Some d → item_delta s at outer inner ≡ Some v
    → v ≡ unit *ℤ d

-- a delta of an item in whole units is looked at where it is less than 2 ^ 32 units
abbrev pub IsWhole : ℤ → Type 0
IsWhole d = unsigned_abs d < 2 ^ 32

-- an item that varies by a number of whole units is that number when it is rounded: so the advance of a glyph by
-- `HVAR`, and a metric by `MVAR`, is at a master what the table has and the delta for it, and at the default what the
-- table has
abbrev pub IsRoundedAsItIs : Type 0
IsRoundedAsItIs = (d : ℤ) → IsWhole d → whole_or_fault (Some (unit *ℤ d)) ≡ Ok d
