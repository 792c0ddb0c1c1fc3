use Rattle.std.proofs.Common.{◌+◌, ◌-◌, sym, ◌∙◌, arith}
use Rattle.subsetter_points.proofs.ReadLemmas.{ends_none, ends_more, ends_end}
use Rattle.subsetter_points.proofs.lists.ends.read_ends.Goals as goal

-- src/ends.rt:38:13
pub returns-in_default-clause-ok : goal.returns-in_default-clause-ok
returns-in_default-clause-ok c = sym (c.loop.invariant ∙ ends_none c.loop.ends.items (c.args.count - c.loop.counter) (c.args.count - (c.loop.counter + 1)) c.loop.from c.loop.rest.now (omega arith) (sym c.in_default.ensures))

-- src/ends.rt:36:5
pub loop-preserved : goal.loop-preserved
loop-preserved c =
    let more = ends_more c.loop.ends.items (c.args.count - c.loop.counter) (c.args.count - (c.loop.counter + 1)) c.loop.from c.loop.rest.now (c.in-Some.end, c.in-Some.after.now) (omega arith) (sym c.in-Some.ensures) in
    cc (more, c.loop.invariant, c.in_ok-push.ensures.items, c.from-from.ensures)

-- src/ends.rt:25:1
pub returns-clause-ok : goal.returns-clause-ok
returns-clause-ok c = sym (c.loop.invariant ∙ ends_end c.loop.ends.items (c.args.count - c.loop.counter) c.loop.from c.loop.rest.now (omega arith))
