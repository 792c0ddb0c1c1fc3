use Rattle.std.proofs.Common.{arith, ◌^◌, ◌≤◌, unsigned_abs}
use Rattle.std.proofs.lemmas.Int.{ints, to_z-of_z}
use Rattle.subsetter_variation.proofs.locations.coordinates.fixed_to_f2dot14.Goals as goal

pub overflow_cast-result : goal.overflow_cast-result
overflow_cast-result c = let w : unsigned_abs c.nearest.result ≤ 2 ^ 17 = c.nearest.ensures.within (2 ^ 17) (omega (arith, ints)) in omega (arith, ints)

pub returns-clause-bound : goal.returns-clause-bound
returns-clause-bound c = let w : unsigned_abs c.nearest.result ≤ 2 ^ 17 = c.nearest.ensures.within (2 ^ 17) (omega (arith, ints)) in omega (arith, ints)

pub returns-clause-value : goal.returns-clause-value
returns-clause-value c = let w : unsigned_abs c.nearest.result ≤ 2 ^ 17 = c.nearest.ensures.within (2 ^ 17) (omega (arith, ints)) in grind (arith, to_z-of_z)
