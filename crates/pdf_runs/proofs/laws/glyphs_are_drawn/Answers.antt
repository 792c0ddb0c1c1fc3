use Rattle.pdf_runs.proofs.RunLaws.{glyphs_are_drawn}
use Rattle.pdf_runs.proofs.laws.glyphs_are_drawn.Goals as goal

pub returns : goal.returns
returns c = glyphs_are_drawn
