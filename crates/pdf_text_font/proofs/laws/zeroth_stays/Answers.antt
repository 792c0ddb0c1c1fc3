use Rattle.pdf_text_font.proofs.SaidLaws.{zeroth_stays}
use Rattle.pdf_text_font.proofs.laws.zeroth_stays.Goals as goal

pub returns : goal.returns
returns c = zeroth_stays
