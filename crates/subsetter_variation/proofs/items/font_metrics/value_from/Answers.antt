use Rattle.std.proofs.Common.{rules, ◌≡◌, ◌+◌, ◌*◌, take, false, Some, sym, ◌∙◌}
use Rattle.std.specs.Str.{bytes_eq}
use Rattle.subsetter_base.specs.Bytes.{range}
use Rattle.subsetter_variation.proofs.ItemsLaws.Values.{value_step}
use Rattle.subsetter_variation.proofs.items.font_metrics.value_from.Goals as goal

pub loop-k-preserved : goal.loop-k-preserved
loop-k-preserved c =
    let mvar = c.args.mvar.now in
    let there : range mvar (12 + c.loop-k.k * c.args.size) 8 ≡ Some c.in_ok-bytes.bytes.now = search rules in
    let other : bytes_eq (take 4 c.in_ok-bytes.bytes.now) c.args.tag.0 ≡ false = sym c.if-has_tag.ensures in
    sym (value_step c.args.count c.loop-k.k c.args.size mvar c.args.tag.0 c.in_ok-bytes.bytes.now c.loop-k-test.true there other) ∙ c.loop-k.invariant
