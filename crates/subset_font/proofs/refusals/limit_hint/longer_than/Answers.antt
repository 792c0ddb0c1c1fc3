use Rattle.std.proofs.Common.{rules}
use Rattle.subset_font.specs.Refusals.LimitHint.{AreLonger}
use Rattle.subset_font.proofs.refusals.limit_hint.longer_than.Goals as goal

pub returns : goal.returns
returns c =
    let longer : AreLonger c.args.most c.args.plan.now.task.options.limits c.with_bytes.result = search rules in
    record { limits = c.with_bytes.result; are_wanted = longer; size = c.in_ok-size.size; is_size = c.in_ok-size.ensures; hint_is = c.more_than.ensures }
