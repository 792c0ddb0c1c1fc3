-- What was computed at a location, and isn't computed again: the scalars of a store's regions, and what its items vary
-- by.
use Rattle.std.specs.Prelude.{◌≡◌, ◌≤ℤ◌, ◌^◌, ℕ, List, Option, IfSome, None, Some, All, ℤ, pos, Result, Err}
use Rattle.subsetter_base.specs.Items.{Items}
use Rattle.subsetter_base.specs.declared.error.Error.{Error}
use Rattle.subsetter_base.specs.declared.error.Error.TheVariants.{MalformedFont}
use Rattle.subsetter_variation.specs.Region.{scalar}
use Rattle.subsetter_variation.specs.Items.ItemVariations.{Store, item_delta, region_items, region_of, whole_or_fault}
use Rattle.subsetter_variation.specs.declared.items.known.KnownScalar.{KnownScalar}
use Rattle.subsetter_variation.specs.declared.items.known.KnownDelta.{KnownDelta}

-- the region of a scalar can be read, and this is its scalar
pub record IsScalar (s : Store) (at : List ℤ) (k : KnownScalar) : Type 0 where
  pub region : Items
  pub there : region_items s k.index ≡ Some region
  pub value : k.scalar ≡ scalar (region_of region) at
  pub low : pos 0 ≤ℤ k.scalar
  pub high : k.scalar ≤ℤ pos (2 ^ 30)

-- the same of each place that has one
abbrev pub AreScalars : Store → List ℤ → List (Option KnownScalar) → Type 0
AreScalars s at known = All (λ place. IfSome place (IsScalar s at)) known

-- an item varies by this, or this is what is wrong with it
abbrev pub IsDelta : Store → List ℤ → KnownDelta → Type 0
IsDelta s at d = d.delta ≡ whole_or_fault (item_delta s at d.outer d.inner)

abbrev pub AreDeltas : Store → List ℤ → List (Option KnownDelta) → Type 0
AreDeltas s at known = All (λ place. IfSome place (IsDelta s at)) known

-- what an item of a list varies by in whole units, and what is wrong where there is none
abbrev pub listed_delta : Store → List ℤ → Option (ℕ × ℕ) → Result ℤ Error
listed_delta s at None = Err MalformedFont
listed_delta s at (Some item) = whole_or_fault (item_delta s at item.0 item.1)
