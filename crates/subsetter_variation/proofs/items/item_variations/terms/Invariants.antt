use Rattle.std.proofs.Common.{◌≡◌, ◌-◌, ◌*◌, ◌≤◌, ◌^◌, unsigned_abs}
use Rattle.subsetter_variation.specs.Items.ItemVariations.{terms}
use Rattle.subsetter_variation.specs.Items.Known.{AreScalars}
use Rattle.subsetter_variation.proofs.ItemsLaws.Terms.{on_top}
use Rattle.subsetter_variation.proofs.items.item_variations.terms.Given as goal

abbrev pub invariant-loop-k : goal.invariant-loop-k
invariant-loop-k l = record {
  sum : on_top l.sum (terms l.s l.at l.r (l.count - l.k) l.k) ≡ terms l.s l.at l.r l.count 0;
  bound : unsigned_abs l.sum ≤ 2 ^ 62 * l.k;
  known : AreScalars l.s l.at l.known;
}
