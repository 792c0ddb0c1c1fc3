use Rattle.std.proofs.Common.{◌≡◌, ◌+◌, ◌*◌, ◌^◌, drop}
use Rattle.subsetter_blend.specs.Runs.Blend.{scalars_in}
use Rattle.subsetter_cff2.specs.PrivateDicts.Blend.{varied}
use Rattle.subsetter_cff2.specs.PrivateDicts.Held.{IsBoundedBy}
use Rattle.subsetter_cff2.specs.Variation.{data_scalars}
use Rattle.subsetter_cff2.proofs.private_dicts.blend.vary.Given as goal

abbrev pub invariant-loop-k : goal.invariant-loop-k
invariant-loop-k l =
    let scalars = scalars_in (data_scalars l.variation l.outer) in
    record {
      same : varied l.value (drop l.k scalars) (drop l.k l.deltas) ≡ varied l.fn.default scalars l.deltas;
      bound : IsBoundedBy (2 ^ 45 + l.k * 2 ^ 46) l.value;
    }
