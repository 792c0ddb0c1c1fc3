use Rattle.pdf_text_font.proofs.OwnLaws.{own_glyphs_are_kept}
use Rattle.pdf_text_font.proofs.laws.own_glyphs_are_kept.Goals as goal

pub returns : goal.returns
returns c = own_glyphs_are_kept
