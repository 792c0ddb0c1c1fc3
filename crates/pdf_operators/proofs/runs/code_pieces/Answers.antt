use Rattle.pdf_operators.proofs.RunSteps.{coded_all}
use Rattle.pdf_operators.proofs.runs.code_pieces.Goals as goal

pub returns-clause-coded : goal.returns-clause-coded
returns-clause-coded c = coded_all c.codes_of.new.pairs c.args.pieces.now _ c.in-Ok.ensures.codes
