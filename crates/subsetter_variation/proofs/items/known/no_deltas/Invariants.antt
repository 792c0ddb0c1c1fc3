use Rattle.std.proofs.Common.{◌<◌, List, length, ℤ}
use Rattle.subsetter_variation.specs.Items.ItemVariations.{Store}
use Rattle.subsetter_variation.specs.Items.Known.{AreDeltas}
use Rattle.subsetter_variation.proofs.items.known.no_deltas.Given as goal

abbrev pub invariant-loop-place : goal.invariant-loop-place
invariant-loop-place l = record {
  some : 0 < length l.places.items;
  none : (s : Store) (at : List ℤ) → AreDeltas s at l.places.items;
}
