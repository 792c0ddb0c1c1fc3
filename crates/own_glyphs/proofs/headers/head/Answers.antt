use Rattle.std.proofs.Common.{length, ap, arith}
use Rattle.subsetter.proofs.CommonLaws.HeadLaws.Written.{length-head}
use Rattle.own_glyphs.proofs.headers.head.Goals as goal

pub write_head-requires-clause-room : goal.write_head-requires-clause-room
write_head-requires-clause-room c =
    omega (arith, length-head c.args.long c.args.source.now c.requires, ap length c.in_ok-head.ensures.items, c.in_ok-head.ensures.capacity)
