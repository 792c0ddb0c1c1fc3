use Rattle.pdf_figures.proofs.Numbered.{items_say_the_run}
use Rattle.pdf_figures.proofs.laws.items_say_the_run.Goals as goal

pub returns : goal.returns
returns c = items_say_the_run
