use Rattle.pdf_text.proofs.MetricsLaws.WidthLaws.Lists.{entries_are_few}
use Rattle.pdf_text.proofs.MetricsLaws.WidthLaws.Whole as laws
use Rattle.pdf_text.proofs.metrics.arrays.widths_are_read.Goals as goal

pub returns-clause-read : goal.returns-clause-read
returns-clause-read c = laws.widths_are_read

pub returns-clause-few : goal.returns-clause-few
returns-clause-few c = entries_are_few

pub returns-clause-short : goal.returns-clause-short
returns-clause-short c = laws.lists_are_short
