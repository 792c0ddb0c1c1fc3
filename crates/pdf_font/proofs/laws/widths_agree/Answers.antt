use Rattle.pdf_font.proofs.OneFont.{widths_agree}
use Rattle.pdf_font.proofs.laws.widths_agree.Goals as goal

pub returns : goal.returns
returns c = widths_agree
