use Rattle.std.proofs.Common.{arith}
use Rattle.std.proofs.lemmas.Int.{to_z-of_z}
use Rattle.subsetter_variation.specs.Region.{proportion}
use Rattle.subsetter_variation.proofs.region.proportion.Goals as goal

pub returns-clause-value : goal.returns-clause-value
unfolding proportion
returns-clause-value c = grind (arith, to_z-of_z)
