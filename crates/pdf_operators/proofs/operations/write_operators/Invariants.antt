use Rattle.std.proofs.Common.{◌≡◌, ◌++◌, drop}
use Rattle.std.specs.Prelude.{All}
use Rattle.pdf_operators.specs.declared.operations.Operation.{Operation}
use Rattle.pdf_operators.specs.Content.{IsWritable}
use Rattle.pdf_operators.specs.Operators.{act_of, acts_of, operators, written}
use Rattle.pdf_operators.proofs.operations.write_operators.Given as goal

abbrev pub invariant-loop-operation : goal.invariant-loop-operation
invariant-loop-operation l = record {
  so_far : l.text.items ++ written l.size l.pairs l.array (acts_of (drop l.operation-index l.operations)) ≡ operators l.size l.pairs (acts_of l.operations);
  writable : All (λ (o : Operation). IsWritable l.size l.pairs (act_of o)) (drop l.operation-index l.operations) → All (λ (o : Operation). IsWritable l.size l.pairs (act_of o)) l.operations;
}
