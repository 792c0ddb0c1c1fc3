use Rattle.std.proofs.Common.{arith}
use Rattle.cff_repeats.proofs.keeping.are_bytes.Goals as goal

pub returns : goal.returns
returns c = λ i. omega (arith, c.type_inv.numbers i)
