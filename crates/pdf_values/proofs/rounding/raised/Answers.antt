use Rattle.std.proofs.Common.{arith}
use Rattle.std.proofs.lemmas.Int.{ints}
use Rattle.pdf_values.proofs.Nearest.{is_opposite}
use Rattle.pdf_values.proofs.rounding.raised.Goals as goal

pub returns-clause-above : goal.returns-clause-above
returns-clause-above c = is_opposite c.args.v _ c.args.units c.lowered.result _ (omega (arith, ints)) (omega (arith, ints)) c.lowered.ensures.below
