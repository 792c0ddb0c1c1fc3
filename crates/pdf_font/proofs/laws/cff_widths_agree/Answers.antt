use Rattle.pdf_font.proofs.CffWidths.{cff_widths}
use Rattle.pdf_font.proofs.laws.cff_widths_agree.Goals as goal

pub returns : goal.returns
returns c = cff_widths
