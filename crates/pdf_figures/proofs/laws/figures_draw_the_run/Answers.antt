use Rattle.pdf_figures.proofs.Runs.{figures_draw_the_run}
use Rattle.pdf_figures.proofs.laws.figures_draw_the_run.Goals as goal

pub returns : goal.returns
returns c = figures_draw_the_run
