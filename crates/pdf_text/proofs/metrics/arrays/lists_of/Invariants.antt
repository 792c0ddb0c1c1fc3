use Rattle.std.proofs.Common.{◌≡◌, ◌≤◌, ◌-◌, ◌++◌, length, drop}
use Rattle.pdf_text.specs.Metrics.Arrays.{lists_from}
use Rattle.pdf_text.specs.View.{parts_view}
use Rattle.pdf_text.proofs.metrics.arrays.lists_of.Given as goal

abbrev pub invariant-loop-first : goal.invariant-loop-first
invariant-loop-first l = record {
  so_far : parts_view l.parts.items ++ lists_from l.most (length l.widths - l.first) l.first (drop l.first l.widths) ≡ lists_from l.most (length l.widths) 0 l.widths;
  within : l.first ≤ length l.widths;
}

abbrev pub decreases-loop-first : goal.decreases-loop-first
decreases-loop-first l = length l.widths - l.first
