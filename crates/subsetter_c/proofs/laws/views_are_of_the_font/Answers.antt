use Rattle.subsetter_c.proofs.DocumentsLaws.PdfLaws.{views_are_of_the_font}
use Rattle.subsetter_c.proofs.laws.views_are_of_the_font.Goals as goal

pub returns : goal.returns
returns c = views_are_of_the_font
