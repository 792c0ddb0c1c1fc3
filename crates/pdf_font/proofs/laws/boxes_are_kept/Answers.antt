use Rattle.pdf_font.proofs.BoxedPrograms.{kept_boxes}
use Rattle.pdf_font.proofs.laws.boxes_are_kept.Goals as goal

pub returns : goal.returns
returns c = kept_boxes
