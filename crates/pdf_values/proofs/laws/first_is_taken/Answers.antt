use Rattle.pdf_values.proofs.First as laws
use Rattle.pdf_values.proofs.laws.first_is_taken.Goals as goal

pub returns : goal.returns
returns c = laws.first_is_taken
