use Rattle.pdf_codes.proofs.StayLaws.{codes_stay}
use Rattle.pdf_codes.proofs.laws.codes_stay.Goals as goal

pub returns : goal.returns
returns c = codes_stay
