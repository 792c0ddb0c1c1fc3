use Rattle.pdf_text_font.proofs.MapLaws.{maps_are_read}
use Rattle.pdf_text_font.proofs.laws.maps_are_read.Goals as goal

pub returns : goal.returns
returns c = maps_are_read
