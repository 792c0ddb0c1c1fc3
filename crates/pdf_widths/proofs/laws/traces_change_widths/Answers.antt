use Rattle.pdf_widths.proofs.Traces.{traces_change}
use Rattle.pdf_widths.proofs.laws.traces_change_widths.Goals as goal

pub returns : goal.returns
returns c = traces_change
