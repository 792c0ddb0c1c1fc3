use Rattle.pdf_runs.specs.Clusters.{lists}
use Rattle.pdf_text.specs.Cmaps.Cmap.{words}
use Rattle.pdf_operators.specs.Operators.{text_of_all, units_of}
use Rattle.pdf_operators.proofs.Spans.{span_written}
use Rattle.pdf_operators.proofs.operations.write_begin.Goals as goal

pub returns-clause-ok : goal.returns-clause-ok
returns-clause-ok c =
    span_written c.args.text.now.items (words (units_of (text_of_all (lists c.args.clusters.now)))) c.extend_from_slice.new.self.items c.write_texts.new.text.items c.extend_from_slice-2.new.self.items
    c.in_ok-extend_from_slice.ensures.items c.in_ok-write_texts.ensures.ok c.in_ok-extend_from_slice-2.ensures.items
