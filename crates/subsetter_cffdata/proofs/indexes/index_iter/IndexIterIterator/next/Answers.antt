use Rattle.std.proofs.Common.{ap, arith, length, sym}
use Rattle.subsetter_cffdata.specs.Indexes.IndexView.{items}
use Rattle.subsetter_cffdata.proofs.IndexesLaws.IndexRests.{readable_some, readable_none, readable_end}
use Rattle.subsetter_cffdata.proofs.indexes.index_iter.IndexIterIterator.next.Goals as goal

pub returns-in_err-entry-clause-steps : goal.returns-in_err-entry-clause-steps
returns-in_err-entry-clause-steps c =
    let es = items c.args.self.now.index in
    rw c.from_residual.ensures (readable_none es c.args.self.now.offset (sym c.in_err-entry.ensures), readable_end es c.len-end.result (omega (arith, c.len-end.ensures)))

pub returns-clause-steps : goal.returns-clause-steps
returns-clause-steps c = readable_some (items c.args.self.now.index) c.args.self.now.offset c.in_ok-entry.entry.now (sym c.in_ok-entry.ensures)

pub returns-clause-goes : goal.returns-clause-goes
returns-clause-goes c =
    let fewer = ap length (returns-clause-steps c) in
    record { on = λ _. (tt, tt, omega (arith, fewer)); keeps = tt; rests = λ _. tt }
