use Rattle.std.proofs.Common.{length}
use Rattle.std.specs.Prelude.{slice_index}
use Rattle.pdf_source.specs.Frequent.{count_of}
use Rattle.pdf_source.proofs.Counting.{IsBest}
use Rattle.pdf_source.proofs.widths.most_frequent.Given as goal

abbrev pub invariant-loop-i : goal.invariant-loop-i
invariant-loop-i l = IsBest (λ j. count_of l.widths (slice_index l.widths j)) (length l.widths) l.i l.best
