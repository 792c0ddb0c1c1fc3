use Rattle.std.proofs.Common.{sym, subst, ◌<◌, arith, get_or}
use Rattle.subsetter_type2.specs.Runs.Machine.{Act}
use Rattle.subsetter_type2.specs.Runs.MachineView.{registers_of, library_of, Performs}
use Rattle.subsetter_type2.proofs.RunsLaws.Operating.{operates}
use Rattle.subsetter_type2.proofs.runs.machine.Machine.act_on_any.Goals as goal

pub returns : goal.returns
returns g c =
    let low : get_or c.args.bytes.now 0 0 < 32 = omega arith in
    let whole = operates (library_of c.args.subroutines.now) c.args.bytes.now (registers_of g.S.Sink.written c.args.self.now) c.one_byte_effect.result c.in-len1-up.len_at_least low c.if-first-eq-SHORT_INT.false c.if-first-eq-TWO_BYTE_OPERATOR_MARK.false
    c.one_byte_effect.ensures in
    subst (λ (a : Act). Performs a g.S.Sink.written c.args.self.now c.operate.new.self c.operate.result) (sym whole) c.operate.ensures
