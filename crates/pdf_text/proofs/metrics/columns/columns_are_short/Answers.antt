use Rattle.pdf_text.proofs.MetricsLaws.ColumnLaws.Steps as laws
use Rattle.pdf_text.proofs.metrics.columns.columns_are_short.Goals as goal

pub returns-clause-lists : goal.returns-clause-lists
returns-clause-lists c = laws.columns_are_short

pub returns-clause-few : goal.returns-clause-few
returns-clause-few c = laws.columns_are_few
