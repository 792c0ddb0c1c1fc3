use Rattle.std.proofs.Common.{◌≡◌, ◌+◌, ◌++◌, length}
use Rattle.pdf_text.specs.Metrics.Arrays.{entries_from}
use Rattle.pdf_text.specs.View.{parts_view}
use Rattle.pdf_text.proofs.metrics.arrays.parts_of.Given as goal

abbrev pub invariant-loop-rest : goal.invariant-loop-rest
invariant-loop-rest l = record {
  so_far : parts_view l.parts.items ++ entries_from l.most l.first l.default l.settled l.rest ≡ entries_from l.most 0 l.default 0 l.widths;
  room : l.first + length l.rest ≡ length l.widths;
}

abbrev pub decreases-loop-rest : goal.decreases-loop-rest
decreases-loop-rest l = length l.rest
