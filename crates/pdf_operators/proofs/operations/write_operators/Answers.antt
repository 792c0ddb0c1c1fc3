use Rattle.std.proofs.Common.{arith}
use Rattle.pdf_operators.specs.declared.operations.Operation.{Operation}
use Rattle.pdf_operators.specs.Content.{IsWritable}
use Rattle.pdf_operators.specs.Operators.{act_of, acts_of, operators}
use Rattle.pdf_operators.proofs.Elements.{All-more, All-seen}
use Rattle.pdf_operators.proofs.RunSteps.{operation_put}
use Rattle.pdf_operators.proofs.Shown.{read_back, written_all}
use Rattle.pdf_operators.proofs.operations.write_operators.Goals as goal

pub loop-operation-preserved : goal.loop-operation-preserved
loop-operation-preserved c =
    let ops = c.args.operations.now in
    let k = c.loop-operation.operation-index in
    record {
      so_far =
          operation_put c.args.size c.args.pairs.now ops k _ c.loop-operation.array c.open_after-array.result c.loop-operation.text.items c.write_operation.new.text.items _ c.loop-operation-test.true c.in_ok-write_operation.ensures.ok c.open_after-array.ensures
          c.loop-operation.invariant.so_far;
      writable = All-more (λ (o : Operation). IsWritable c.args.size c.args.pairs.now (act_of o)) ops k _ c.loop-operation-test.true c.in_ok-write_operation.ensures.writable c.loop-operation.invariant.writable;
    }

pub returns-clause-read : goal.returns-clause-read
returns-clause-read c =
    let size = c.args.size in
    let pairs = c.args.pairs.now in
    let ops = c.args.operations.now in
    let k = c.loop-operation.operation-index in
    read_back size pairs ops c.write_closing.new.text.items
    (written_all size pairs ops k c.loop-operation.array c.loop-operation.text.items c.write_closing.new.text.items (operators size pairs (acts_of ops)) (omega arith) c.in_ok-write_closing.ensures.ok c.loop-operation.invariant.so_far)
    (All-seen (λ (o : Operation). IsWritable size pairs (act_of o)) ops k (omega arith) c.loop-operation.invariant.writable)
