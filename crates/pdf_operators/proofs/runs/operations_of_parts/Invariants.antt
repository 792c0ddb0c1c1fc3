use Rattle.std.proofs.Common.{◌≡◌, ◌++◌, drop}
use Rattle.pdf_runs.specs.Words.{groups}
use Rattle.pdf_operators.specs.Operators.{acts_of}
use Rattle.pdf_operators.specs.Runs.{acts_after, are_shown}
use Rattle.pdf_operators.proofs.runs.operations_of_parts.Given as goal

abbrev pub invariant-loop-part : goal.invariant-loop-part
invariant-loop-part l = record {
  acts : acts_of l.operations.items ++ acts_after l.font l.direction l.end l.stop (groups (drop l.part-index l.parts)) ≡ acts_after l.font l.direction l.end l.fn.first (groups l.parts);
  shown : are_shown l.font l.direction l.end l.stop (groups (drop l.part-index l.parts)) ≡ are_shown l.font l.direction l.end l.fn.first (groups l.parts);
}
