use Rattle.std.proofs.Common.{◌+◌, arith}
use Rattle.subsetter.proofs.CommonLaws.PostLaws.Steps.{eight_alike, eight_looks}
use Rattle.subsetter.proofs.common.post.marks.alike_len.Goals as goal

pub returns-then-bytes-step-8-clause-names : goal.returns-then-bytes-step-8-clause-names
returns-then-bytes-step-8-clause-names c =
    let looks = eight_looks c.args.bytes.now c.args.len (c.from-step.result + 1) c.if-bytes-len.true c.if-bytes-step-2.true c.if-bytes-step-3.true c.if-bytes-step-4.true c.if-bytes-step-5.true c.if-bytes-step-6.true c.if-bytes-step-7.true c.if-bytes-step-8.true in
    eight_alike c.args.bytes.now c.args.len (c.from-step.result + 1) c.args.count (omega (arith, c.from-step.ensures)) c.if-bytes-step.false c.requires looks
