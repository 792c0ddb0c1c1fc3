use Rattle.std.proofs.Common.{◌≡◌, ◌+◌, drop}
use Rattle.pdf_text.specs.Metrics.Arrays.{run}
use Rattle.pdf_text.proofs.metrics.arrays.run.Given as goal

abbrev pub invariant-loop-v : goal.invariant-loop-v
invariant-loop-v l = record {
  so_far : l.n ≡ l.v-index;
  rest : l.n + run l.width (drop l.v-index l.widths) ≡ run l.width l.widths;
}
