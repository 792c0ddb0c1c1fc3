use Rattle.pdf_font.proofs.LawProofs.{codes_need_no_font}
use Rattle.pdf_font.proofs.laws.codes_need_no_font.Goals as goal

pub returns : goal.returns
returns c = codes_need_no_font
