use Rattle.std.proofs.Common.{◌≡◌, ◌++◌, drop, map}
use Rattle.subsetter_variation.specs.Items.Known.{AreDeltas, AreScalars, listed_delta}
use Rattle.subsetter_variation.proofs.items.known.each_delta_by.Given as goal

abbrev pub invariant-loop-item : goal.invariant-loop-item
invariant-loop-item l = record {
  read : l.deltas.items ++ map (listed_delta l.s l.at) (drop l.item-index l.items) ≡ map (listed_delta l.s l.at) l.items;
  scalars : AreScalars l.s l.at l.scalars;
  known : AreDeltas l.s l.at l.known;
}
