use Rattle.std.proofs.Common.{◌≡◌, ◌++◌, map, drop}
use Rattle.std.specs.List.{join_with_byte}
use Rattle.pdf_text.specs.View.{part_view}
use Rattle.pdf_text.specs.Metrics.Columns.{span_text, span_of}
use Rattle.subsetter_base.proofs.TextLemmas.{spaced}
use Rattle.pdf_text.proofs.metrics.columns.write_spans.Given as goal

abbrev pub invariant-loop-part : goal.invariant-loop-part
invariant-loop-part l = l.text.items ++ spaced (map (λ p. span_text (span_of l.columns (part_view p))) (drop l.part-index l.rest)) ≡ l.fn.text.items ++ join_with_byte 32 (map (λ p. span_text (span_of l.columns (part_view p))) l.fn.parts)
