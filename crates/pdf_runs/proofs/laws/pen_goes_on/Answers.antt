use Rattle.pdf_runs.proofs.RunLaws.{pen_goes_on}
use Rattle.pdf_runs.proofs.laws.pen_goes_on.Goals as goal

pub returns : goal.returns
returns c = pen_goes_on
