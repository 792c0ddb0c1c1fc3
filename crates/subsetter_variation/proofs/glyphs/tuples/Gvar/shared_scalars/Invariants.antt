use Rattle.std.proofs.Common.{◌≡◌, length}
use Rattle.subsetter_variation.specs.Glyphs.SharedScalars.{AreSharedScalars}
use Rattle.subsetter_variation.proofs.glyphs.tuples.Gvar.shared_scalars.Given as goal

abbrev pub invariant-loop-index : goal.invariant-loop-index
invariant-loop-index l = record {
  count : length l.scalars.items ≡ l.index;
  right : AreSharedScalars l.self l.at l.scalars.items;
}
