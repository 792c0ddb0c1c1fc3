use Rattle.pdf_figures.proofs.Runs.{pen_goes_on}
use Rattle.pdf_figures.proofs.laws.pen_goes_on.Goals as goal

pub returns : goal.returns
returns c = pen_goes_on
