use Rattle.std.proofs.Common.{true, false}
use Rattle.subsetter_cffdata.specs.Views.{operator_of}
use Rattle.subsetter_cff2.proofs.PrivateDictsLaws.PrivateWrites.{said_ok, said_err}
use Rattle.subsetter_cff2.proofs.private_dicts.private_at.take_operator.Goals as goal

pub returns-in-Edges-clause-ok : goal.returns-in-Edges-clause-ok
returns-in-Edges-clause-ok c =
    said_ok c.write.result true c.args.variation.now c.args.stack.now c.write.new.self (operator_of c.args.operator) c.args.w.now c.write.new.w c.in-Edges.ensures c.write.ensures.registers c.write.ensures.ok

pub returns-in-Edges-clause-err : goal.returns-in-Edges-clause-err
returns-in-Edges-clause-err c =
    said_err c.write.result true c.args.variation.now c.args.stack.now (operator_of c.args.operator) c.args.w.now c.in-Edges.ensures c.write.ensures.err

pub returns-in-Numbers-clause-ok : goal.returns-in-Numbers-clause-ok
returns-in-Numbers-clause-ok c =
    said_ok c.write-in-Numbers.result false c.args.variation.now c.args.stack.now c.write-in-Numbers.new.self (operator_of c.args.operator) c.args.w.now c.write-in-Numbers.new.w c.in-Numbers.ensures c.write-in-Numbers.ensures.registers c.write-in-Numbers.ensures.ok

pub returns-in-Numbers-clause-err : goal.returns-in-Numbers-clause-err
returns-in-Numbers-clause-err c =
    said_err c.write-in-Numbers.result false c.args.variation.now c.args.stack.now (operator_of c.args.operator) c.args.w.now c.in-Numbers.ensures c.write-in-Numbers.ensures.err
