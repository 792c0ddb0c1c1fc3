use Rattle.pdf_figures.proofs.Runs.{text_is_kept}
use Rattle.pdf_figures.proofs.laws.text_is_kept.Goals as goal

pub returns : goal.returns
returns c = text_is_kept
