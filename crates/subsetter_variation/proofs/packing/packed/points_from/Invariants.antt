use Rattle.std.proofs.Common.{◌≡◌, ◌-◌, ◌<◌}
use Rattle.std.specs.List.{All}
use Rattle.std.specs.Option.{ok_or}
use Rattle.subsetter_base.specs.declared.error.Error.TheVariants.{MalformedFont}
use Rattle.subsetter_variation.specs.Packing.Packed.{points_from, runs}
use Rattle.subsetter_variation.proofs.PackingLaws.Runs.{ahead}
use Rattle.subsetter_variation.proofs.packing.packed.points_from.Given as goal

abbrev pub invariant-loop-i : goal.invariant-loop-i
invariant-loop-i l = record {
  read : ahead l.list.items (ok_or (points_from l.limit (l.count - l.i) l.before l.least l.run) MalformedFont) ≡ ok_or (points_from l.limit l.count 0 0 (runs l.bytes)) MalformedFont;
  below : All (λ x. x < l.limit) l.list.items;
}
