use Rattle.std.proofs.Common.{drop, []}
use Rattle.subset_lines.specs.Notes.{ranges_text}
use Rattle.plain_text.proofs.Written.{Reaches}
use Rattle.subset_lines.proofs.notes.write_ranges.Given as goal

abbrev pub invariant-loop-axis : goal.invariant-loop-axis
invariant-loop-axis g l = Reaches (g.W.Write.contents l.fn.out) (g.W.Write.contents l.out) (ranges_text l.before (drop l.axis-index l.axes)) (ranges_text [] l.axes)
