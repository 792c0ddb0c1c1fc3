-- What is kept of what varies at a place: how many regions each item variation data have, and the scalars of the first
-- ones.
use Rattle.std.specs.Prelude.{◌≡◌, ℕ, ◌≤◌, ℤ, List, length, slice_get, Option, All}
use Rattle.std.specs.Option.{option_map}
use Rattle.subsetter_base.specs.Options.{◌>>=◌}
use Rattle.subsetter_blend.specs.Runs.Blend.{scalars_in}
use Rattle.subsetter_cff2.specs.Variation.{Variation, data_scalars, IsScalar}

-- of the counts, that of one item variation data
abbrev pub known : List (Option ℕ) → ℕ → Option ℕ
known counts outer = slice_get counts outer >>= λ count. count

-- each is the number of regions that the data have
abbrev pub AreCounts : Variation → List (Option ℕ) → Type 0
AreCounts v counts = (outer : ℕ) → known counts outer ≡ option_map (λ (l : List ℤ). length l) (data_scalars v outer)

pub record AreKept (v : Variation) (counts : List (Option ℕ)) (kept : List ℤ) : Type 0 where
  pub counted : AreCounts v counts
  pub few : length counts ≤ 65535
  pub first : kept ≡ scalars_in (data_scalars v 0)
  pub small : All IsScalar kept
