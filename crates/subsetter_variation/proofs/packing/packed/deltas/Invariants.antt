use Rattle.std.proofs.Common.{◌≡◌, ◌-◌, length}
use Rattle.std.specs.Option.{ok_or}
use Rattle.subsetter_base.specs.declared.error.Error.TheVariants.{MalformedFont}
use Rattle.subsetter_variation.specs.Packing.Packed.{deltas_from, runs}
use Rattle.subsetter_variation.proofs.PackingLaws.Runs.{ahead}
use Rattle.subsetter_variation.proofs.packing.packed.deltas.Given as goal

abbrev pub invariant-loop-i : goal.invariant-loop-i
invariant-loop-i l = record {
  read : ahead l.list.items (ok_or (deltas_from (l.n - l.i) l.run) MalformedFont) ≡ ok_or (deltas_from l.n (runs l.bytes)) MalformedFont;
  count : length l.list.items ≡ l.i;
}
