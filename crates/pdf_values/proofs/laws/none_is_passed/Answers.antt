use Rattle.pdf_values.proofs.First as laws
use Rattle.pdf_values.proofs.laws.none_is_passed.Goals as goal

pub returns : goal.returns
returns c = laws.none_is_passed
