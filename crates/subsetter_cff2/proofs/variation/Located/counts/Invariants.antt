use Rattle.std.proofs.Common.{◌≡◌, ◌<◌, ℕ, ℤ, List, length}
use Rattle.std.specs.Option.{option_map}
use Rattle.subsetter_cff2.specs.Variation.{data_scalars}
use Rattle.subsetter_cff2.specs.Kept.{known}
use Rattle.subsetter_cff2.proofs.variation.Located.counts.Given as goal

abbrev pub invariant-loop-outer : goal.invariant-loop-outer
invariant-loop-outer l = record {
  counted : (k : ℕ) → k < l.outer → known l.counts.items k ≡ option_map (λ (s : List ℤ). length s) (data_scalars l.self k);
  size : length l.counts.items ≡ l.outer;
}
