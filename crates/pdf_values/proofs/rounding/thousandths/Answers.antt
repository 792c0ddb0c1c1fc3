use Rattle.std.proofs.Common.{◌≤◌, unsigned_abs, arith}
use Rattle.std.proofs.lemmas.Int.{ints, to_z-of_z}
use Rattle.pdf_values.specs.Rounding.{thousandths}
use Rattle.pdf_values.proofs.Nearest.{is_nearest}
use Rattle.pdf_values.proofs.rounding.thousandths.Goals as goal

pub overflow_cast-result : goal.overflow_cast-result
overflow_cast-result c = let w : unsigned_abs c.nearest.result ≤ 65536000 = c.nearest.ensures.within 65536000 (omega (arith, ints)) in omega (arith, ints)

pub returns-clause-value : goal.returns-clause-value
unfolding thousandths
returns-clause-value c = let w : unsigned_abs c.nearest.result ≤ 65536000 = c.nearest.ensures.within 65536000 (omega (arith, ints)) in grind (arith, to_z-of_z)

pub returns-clause-nearest : goal.returns-clause-nearest
returns-clause-nearest c = is_nearest c.args.v c.args.units _ (returns-clause-value c) c.requires.above
