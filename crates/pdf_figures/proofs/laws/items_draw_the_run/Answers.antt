use Rattle.pdf_figures.proofs.Numbered.{items_draw_the_run}
use Rattle.pdf_figures.proofs.laws.items_draw_the_run.Goals as goal

pub returns : goal.returns
returns c = items_draw_the_run
