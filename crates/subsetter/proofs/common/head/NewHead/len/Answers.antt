use Rattle.std.proofs.Common.{length, sym, ap, ◌∙◌}
use Rattle.subsetter.proofs.CommonLaws.HeadLaws.Written.{length-head}
use Rattle.subsetter.proofs.common.head.NewHead.len.Goals as goal

pub returns : goal.returns
returns c = sym (length-head c.self.inside.long c.self.inside.source.now c.self.invariant) ∙ ap length c.self.view_is
