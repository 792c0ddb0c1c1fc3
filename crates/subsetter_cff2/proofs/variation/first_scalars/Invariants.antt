use Rattle.std.proofs.Common.{◌≡◌, take, All}
use Rattle.subsetter_blend.specs.Runs.Blend.{scalars_in}
use Rattle.subsetter_cff2.specs.Variation.{data_scalars, IsScalar}
use Rattle.subsetter_cff2.proofs.variation.first_scalars.Given as goal

abbrev pub invariant-loop-region : goal.invariant-loop-region
invariant-loop-region l = record {
  same : l.scalars.items ≡ take l.region (scalars_in (data_scalars l.all 0));
  bound : All IsScalar l.scalars.items;
}
