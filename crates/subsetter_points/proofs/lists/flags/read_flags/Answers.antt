use Rattle.std.proofs.Common.{◌≡◌, ◌+◌, ◌-◌, sym, ap, ◌∙◌, arith}
use Rattle.subsetter_points.specs.Simple.{flags}
use Rattle.subsetter_points.proofs.ReadLemmas.{with_front, flags_none, flags_more, flags_bad, flags_end}
use Rattle.subsetter_points.proofs.lists.flags.read_flags.Goals as goal

-- src/flags.rt:72:13
pub returns-in_default-clause-ok : goal.returns-in_default-clause-ok
returns-in_default-clause-ok c = sym (c.loop.invariant.read ∙ flags_none c.loop.flags.items (c.args.count - c.loop.counter) (c.args.count - (c.loop.counter + 1)) c.loop.run c.loop.rest.now (omega arith) (sym c.in_default.ensures))

-- src/flags.rt:70:5
pub loop-preserved : goal.loop-preserved
loop-preserved c =
    let more = flags_more c.loop.flags.items (c.args.count - c.loop.counter) (c.args.count - (c.loop.counter + 1)) c.loop.run c.loop.rest.now (c.in-Some.taken, c.in-Some.after.now) (omega arith) (sym c.in-Some.ensures) in
    record {
      read = cc (more, c.loop.invariant.read, c.push_reserved.ensures.items);
      room = omega (arith, c.loop.invariant.room, c.push_reserved.ensures.len, c.push_reserved.ensures.capacity);
    }

-- src/flags.rt:79:9
pub returns-then-run-ne0-clause-ok : goal.returns-then-run-ne0-clause-ok
returns-then-run-ne0-clause-ok c =
    let z : c.args.count - c.loop.counter ≡ 0 = omega arith in
    sym (c.loop.invariant.read ∙ ap (λ n. with_front c.loop.flags.items (flags n c.loop.run c.loop.rest.now)) z ∙ flags_bad c.loop.flags.items c.loop.run c.loop.rest.now c.if-run-ne0.true)

-- src/flags.rt:59:1
pub returns-clause-ok : goal.returns-clause-ok
returns-clause-ok c =
    let z : c.args.count - c.loop.counter ≡ 0 = omega arith in
    sym (c.loop.invariant.read ∙ ap (λ n. with_front c.loop.flags.items (flags n c.loop.run c.loop.rest.now)) z ∙ flags_end c.loop.flags.items c.loop.run c.loop.rest.now c.if-run-ne0.false)
