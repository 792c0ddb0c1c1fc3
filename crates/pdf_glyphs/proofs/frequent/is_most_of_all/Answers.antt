use Rattle.pdf_glyphs.proofs.Most.{is_most_of_all}
use Rattle.pdf_glyphs.proofs.frequent.is_most_of_all.Goals as goal

pub returns : goal.returns
returns c = is_most_of_all
