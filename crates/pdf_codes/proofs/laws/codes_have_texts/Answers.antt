use Rattle.pdf_codes.proofs.TextLaws.{codes_have_texts}
use Rattle.pdf_codes.proofs.laws.codes_have_texts.Goals as goal

pub returns : goal.returns
returns c = codes_have_texts
