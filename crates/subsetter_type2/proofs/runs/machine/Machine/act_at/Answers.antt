use Rattle.std.proofs.Common.{List, ℕ, Ok, ap, append-nil, sym, subst}
use Rattle.subsetter_type2.specs.Runs.Machine.{Act, Back}
use Rattle.subsetter_type2.specs.Runs.MachineView.{registers_of, library_of, Performs}
use Rattle.subsetter_type2.proofs.RunsLaws.Operating.{returns_at, calls_local_at, calls_global_at}
use Rattle.subsetter_type2.proofs.runs.machine.Machine.act_at.Goals as goal

pub returns-then-first-eq-RETURN : goal.returns-then-first-eq-RETURN
returns-then-first-eq-RETURN g c =
    rw (returns_at (library_of c.args.subroutines.now) c.args.bytes.now (registers_of g.S.Sink.written c.args.self.now) c.in-len1-up.len_at_least c.if-first-eq-RETURN.true)
    (ap (λ (b : List ℕ). Ok (record { registers = registers_of g.S.Sink.written c.args.self.now; settled = b; lead = Back })) (append-nil (g.S.Sink.written c.args.self.now.output).settled))

pub returns-then-first-eq-CALL_LOCAL_SUBROUTINE : goal.returns-then-first-eq-CALL_LOCAL_SUBROUTINE
returns-then-first-eq-CALL_LOCAL_SUBROUTINE g c =
    let whole = calls_local_at (library_of c.args.subroutines.now) c.args.bytes.now (registers_of g.S.Sink.written c.args.self.now) c.in-len1-up.len_at_least c.if-first-eq-CALL_LOCAL_SUBROUTINE.true in
    subst (λ (a : Act). Performs a g.S.Sink.written c.args.self.now c.call.new.self c.call.result) (sym whole) c.call.ensures

pub returns-then-first-eq-CALL_GLOBAL_SUBROUTINE : goal.returns-then-first-eq-CALL_GLOBAL_SUBROUTINE
returns-then-first-eq-CALL_GLOBAL_SUBROUTINE g c =
    let whole = calls_global_at (library_of c.args.subroutines.now) c.args.bytes.now (registers_of g.S.Sink.written c.args.self.now) c.in-len1-up.len_at_least c.if-first-eq-CALL_GLOBAL_SUBROUTINE.true in
    subst (λ (a : Act). Performs a g.S.Sink.written c.args.self.now c.call-then-first-eq-CALL_GLOBAL_SUBROUTINE.new.self c.call-then-first-eq-CALL_GLOBAL_SUBROUTINE.result) (sym whole) c.call-then-first-eq-CALL_GLOBAL_SUBROUTINE.ensures
