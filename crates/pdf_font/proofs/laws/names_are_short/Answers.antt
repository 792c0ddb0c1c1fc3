use Rattle.pdf_font.proofs.ShortNames.{names_are_short}
use Rattle.pdf_font.proofs.laws.names_are_short.Goals as goal

pub returns : goal.returns
returns c = names_are_short
