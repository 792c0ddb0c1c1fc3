use Rattle.pdf_text_font.proofs.TextLaws.{texts_are_read}
use Rattle.pdf_text_font.proofs.laws.texts_are_read.Goals as goal

pub returns : goal.returns
returns c = texts_are_read
