use Rattle.std.proofs.Common.{◌≡◌, ◌≤◌, ◌+◌, length, drop}
use Rattle.pdf_operators.specs.Operators.{units_of}
use Rattle.pdf_operators.proofs.parts.units_with.Given as goal

abbrev pub invariant-loop-character : goal.invariant-loop-character
invariant-loop-character l = record {
  few : l.total ≤ 16382;
  so_far : l.total + length (units_of (drop l.character-index l.text)) ≡ l.count + length (units_of l.text);
}
