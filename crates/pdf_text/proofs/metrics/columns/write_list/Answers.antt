use Rattle.std.proofs.Common.{◌++◌, ap, ◌∙◌}
use Rattle.pdf_text.specs.Metrics.Columns.{column_text, column_at}
use Rattle.pdf_text.proofs.Pieces.{first_written}
use Rattle.pdf_text.proofs.metrics.columns.write_list.Goals as goal

pub loop-m-init : goal.loop-m-init
loop-m-init c = first_written (λ m. column_text (column_at c.args.columns.now m)) _ c.args.text.now.items c.write_column.new.text.items c.args.marks.now c.in-len1-up.len_at_least (c.in_ok-write_column.ensures.ok ∙ ap (λ x. c.args.text.now.items ++ column_text x) c.column_at.ensures)
