use Rattle.std.proofs.Common.{arith}
use Rattle.subsetter.proofs.GlyfLaws.Walk.{waits_none, waits_cut}
use Rattle.subsetter.proofs.glyf.component.push_cut.Goals as goal

pub returns-then-bytes-lt-ARGUMENTS-clause-ok : goal.returns-then-bytes-lt-ARGUMENTS-clause-ok
returns-then-bytes-lt-ARGUMENTS-clause-ok c = waits_none c.args.order.now c.args.waiting.now.items c.args.bytes.now (omega arith)

pub returns-clause-ok : goal.returns-clause-ok
returns-clause-ok c =
    waits_cut c.args.order.now c.args.waiting.now.items c.push_new.new.waiting.items c.args.bytes.now c.u16_at.result c.requires (omega (arith, c.if-bytes-lt-ARGUMENTS.false)) c.u16_at.ensures c.in_ok-push_new.ensures.ok
