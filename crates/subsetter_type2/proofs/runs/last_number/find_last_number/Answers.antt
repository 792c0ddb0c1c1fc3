use Rattle.std.proofs.Common.{◌-◌, arith}
use Rattle.subsetter_type2.proofs.RunsLaws.OutputLemmas.{stop_before, last_is}
use Rattle.subsetter_type2.proofs.runs.last_number.find_last_number.Goals as goal

pub returns-in_err-read-clause-last : goal.returns-in_err-read-clause-last
returns-in_err-read-clause-last c =
    λ numbers fit e n. absurd (stop_before numbers (c.args.count - 1) c.in_ok-last.last.now fit (omega arith) (c.in_ok-last.ensures.following numbers fit e (omega arith)) c.in_err-read.ensures)

pub returns-clause-last : goal.returns-clause-last
returns-clause-last c =
    λ numbers fit e n. last_is numbers c.args.count _ c.in_ok-last.last.now _ _ fit e n c.if-count-eq0.false (c.in_ok-last.ensures.following numbers fit e (omega arith)) c.in_ok-read.ensures
