use Rattle.pdf_font.proofs.OneFont.{one_answer}
use Rattle.pdf_font.proofs.laws.answers_are_determined.Goals as goal

pub returns : goal.returns
returns c = one_answer
