use Rattle.std.proofs.Common.{arith}
use Rattle.std.proofs.lemmas.Int.{to_z-of_z}
use Rattle.subsetter_variation.specs.Locations.Segments.{interpolated}
use Rattle.subsetter_variation.proofs.locations.segments.interpolated.Goals as goal

pub returns-clause-value : goal.returns-clause-value
unfolding interpolated
returns-clause-value c = grind (arith, to_z-of_z)
