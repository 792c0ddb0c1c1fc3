use Rattle.pdf_operators.proofs.PlaceLaws.{thousandths_are_near}
use Rattle.pdf_operators.proofs.laws.thousandths_are_near.Goals as goal

pub returns : goal.returns
returns c = thousandths_are_near
