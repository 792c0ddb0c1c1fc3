use Rattle.std.proofs.Common.{◌≡◌, ◌≤◌, ◌*◌, ◌++◌, drop}
use Rattle.pdf_runs.specs.Shaped.{starts}
use Rattle.pdf_runs.proofs.shaped.starts_of.Given as goal

abbrev pub invariant-loop-character : goal.invariant-loop-character
invariant-loop-character l = record {
  few : l.at ≤ 4 * l.character-index;
  so_far : l.found.items ++ starts l.unit l.at (drop l.character-index l.text) ≡ starts l.unit 0 l.text;
}
