use Rattle.subsetter_base.proofs.TextLemmas.{decimals_begun}
use Rattle.subsetter_base.proofs.decimals.write_decimals.Goals as goal

pub loop-number-init : goal.loop-number-init
loop-number-init c = decimals_begun c.args.text.now.items c.write_decimal.new.text.items c.args.numbers.now c.in-len1-up.len_at_least c.in_ok-write_decimal.ensures.ok
