use Rattle.pdf_text_font.proofs.SaidLaws.{texts_are_said}
use Rattle.pdf_text_font.proofs.laws.texts_are_said.Goals as goal

pub returns : goal.returns
returns c = texts_are_said
