use Rattle.std.proofs.Common.{◌≡◌, ◌≤◌, ◌+◌, ◌*◌, ◌^◌, drop, unsigned_abs}
use Rattle.subsetter_blend.specs.Runs.Blend.{varied, scalars_in}
use Rattle.subsetter_blend.proofs.runs.sharing.vary.Given as goal

abbrev pub invariant-loop-k : goal.invariant-loop-k
invariant-loop-k g l =
    let scalars = scalars_in (g.R.Regions.scalars l.regions l.data_index) in
    record {
      same : varied l.value (drop l.k scalars) (drop l.k l.deltas) ≡ varied l.fn.default scalars l.deltas;
      bound : unsigned_abs l.value ≤ 2 ^ 45 + l.k * 2 ^ 46;
    }
