use Rattle.pdf_text.specs.View.{part_view}
use Rattle.pdf_text.specs.Metrics.Columns.{span_text, span_of}
use Rattle.pdf_text.proofs.Pieces.{first_written}
use Rattle.pdf_text.proofs.metrics.columns.write_spans.Goals as goal

pub loop-part-init : goal.loop-part-init
loop-part-init c = first_written (λ p. span_text (span_of c.args.columns.now (part_view p))) _ c.args.text.now.items c.write_span.new.text.items c.args.parts.now c.in-len1-up.len_at_least c.in_ok-write_span.ensures.ok
