use Rattle.std.proofs.Common.{◌<◌, List, length, ℤ}
use Rattle.subsetter_variation.specs.Items.ItemVariations.{Store}
use Rattle.subsetter_variation.specs.Items.Known.{AreScalars}
use Rattle.subsetter_variation.proofs.items.known.no_scalars.Given as goal

abbrev pub invariant-loop-place : goal.invariant-loop-place
invariant-loop-place l = record {
  some : 0 < length l.places.items;
  none : (s : Store) (at : List ℤ) → AreScalars s at l.places.items;
}
