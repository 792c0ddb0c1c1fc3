use Rattle.pdf_font.proofs.LawProofs.{have_no_fault}
use Rattle.pdf_font.proofs.laws.answers_have_no_fault.Goals as goal

pub returns : goal.returns
returns c = have_no_fault
