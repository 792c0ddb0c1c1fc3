use Rattle.pdf_font.proofs.LawProofs.{codes_stay}
use Rattle.pdf_font.proofs.laws.codes_stay.Goals as goal

pub returns : goal.returns
returns c = codes_stay
