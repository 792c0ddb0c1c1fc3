use Rattle.pdf_text.proofs.MetricsLaws.ColumnLaws.Steps.{all_written}
use Rattle.pdf_text.proofs.metrics.columns.text_of_parts.Goals as goal

pub returns-clause-ok : goal.returns-clause-ok
returns-clause-ok c =
    all_written c.args.columns.now c.args.parts.now c.new-text.result.items c.extend_from_slice.new.self.items c.write_spans.new.text.items c.extend_from_slice-2.new.self.items
    c.new-text.ensures.items c.in_ok-extend_from_slice.ensures.items c.in_ok-write_spans.ensures.ok c.in_ok-extend_from_slice-2.ensures.items
