use Rattle.pdf_text.proofs.ObjectLaws.Parts.{are_objects}
use Rattle.pdf_text.proofs.parts.parts_are_objects.Goals as goal

pub returns : goal.returns
returns c = are_objects
