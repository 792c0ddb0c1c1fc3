use Rattle.std.proofs.Common.{◌≤◌, unsigned_abs, arith}
use Rattle.std.proofs.lemmas.Int.{ints, to_z-of_z}
use Rattle.pdf_values.specs.Rounding.{thousandths}
use Rattle.pdf_operators.proofs.places.thousandths.Goals as goal

pub returns-clause-value : goal.returns-clause-value
unfolding thousandths
returns-clause-value c = let w : unsigned_abs c.nearest.result ≤ 8589934592000 = c.nearest.ensures.within 8589934592000 (omega (arith, ints)) in grind (arith, to_z-of_z)

pub returns-clause-bound : goal.returns-clause-bound
returns-clause-bound c = let w : unsigned_abs c.nearest.result ≤ 8589934592000 = c.nearest.ensures.within 8589934592000 (omega (arith, ints)) in omega (arith, ints)
