use Rattle.std.proofs.Common.{◌≡◌, ◌≤◌, ◌+◌, ◌-◌, length}
use Rattle.pdf_text.specs.Metrics.Arrays.{listed}
use Rattle.pdf_text.proofs.metrics.arrays.listed.Given as goal

abbrev pub invariant-loop-rest : goal.invariant-loop-rest
invariant-loop-rest l = record {
  so_far : l.n + length l.rest ≡ length l.widths;
  most : l.n ≤ l.most;
  rest : l.n + listed (l.most - l.n) l.default l.rest ≡ listed l.most l.default l.widths;
}

abbrev pub decreases-loop-rest : goal.decreases-loop-rest
decreases-loop-rest l = length l.rest
