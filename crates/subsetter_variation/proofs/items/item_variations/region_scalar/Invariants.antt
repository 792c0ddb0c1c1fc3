use Rattle.std.proofs.Common.{◌≡◌, ◌^◌, pos, ◌≤ℤ◌}
use Rattle.subsetter_variation.specs.Region.{scalar, scalar_of}
use Rattle.subsetter_variation.specs.Items.ItemVariations.{region_of}
use Rattle.subsetter_variation.proofs.items.item_variations.region_scalar.Given as goal

abbrev pub invariant-loop-axis : goal.invariant-loop-axis
invariant-loop-axis l = record {
  counted : scalar_of l.whole (region_of l.axis-iterator) l.rest ≡ scalar (region_of l.fn.region) l.at;
  low : pos 0 ≤ℤ l.whole;
  high : l.whole ≤ℤ pos (2 ^ 30);
}
