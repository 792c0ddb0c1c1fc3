use Rattle.pdf_text.proofs.ObjectLaws.Parts.{are_referred}
use Rattle.pdf_text.proofs.parts.parts_are_referred_to.Goals as goal

pub returns : goal.returns
returns c = are_referred
