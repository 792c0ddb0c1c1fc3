use Rattle.pdf_sheet.proofs.Shown.{are_shown}
use Rattle.pdf_sheet.proofs.sheet.glyphs_are_shown.Goals as goal

pub returns : goal.returns
returns c = are_shown
