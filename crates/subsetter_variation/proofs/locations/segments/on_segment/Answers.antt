use Rattle.std.proofs.Common.{arith}
use Rattle.std.proofs.lemmas.Int.{to_z-of_z}
use Rattle.subsetter_variation.specs.Locations.Segments.{on_segment}
use Rattle.subsetter_variation.proofs.locations.segments.on_segment.Goals as goal

pub returns-clause-value : goal.returns-clause-value
unfolding on_segment
returns-clause-value c = grind (arith, to_z-of_z)
