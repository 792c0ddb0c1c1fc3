use Rattle.pdf_widths.proofs.Whole.{tables_change}
use Rattle.pdf_widths.proofs.laws.tables_change_widths.Goals as goal

pub returns : goal.returns
returns c = tables_change
