use Rattle.pdf_codes.proofs.StayLaws.{codes_are_determined}
use Rattle.pdf_codes.proofs.laws.codes_are_determined.Goals as goal

pub returns : goal.returns
returns c = codes_are_determined
