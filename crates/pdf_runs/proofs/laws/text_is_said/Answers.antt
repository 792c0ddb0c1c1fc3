use Rattle.pdf_runs.proofs.RunLaws.{text_is_said}
use Rattle.pdf_runs.proofs.laws.text_is_said.Goals as goal

pub returns : goal.returns
returns c = text_is_said
