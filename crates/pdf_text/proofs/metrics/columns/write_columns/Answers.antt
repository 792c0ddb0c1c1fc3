use Rattle.std.proofs.lemmas.Result.{IfOk-weaker}
use Rattle.pdf_text.proofs.MetricsLaws.ColumnLaws.Steps.{column_of_text}
use Rattle.pdf_text.proofs.metrics.columns.write_columns.Goals as goal

pub returns-clause-read : goal.returns-clause-read
returns-clause-read c = IfOk-weaker c.text_of.result _ _ (λ text e h. column_of_text c.args.default c.args.columns.now text.items h c.requires e) c.text_of.ensures.ok
