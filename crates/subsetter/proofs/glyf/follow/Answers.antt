use Rattle.std.proofs.Common.{sym, ap, arith}
use Rattle.std.proofs.lemmas.Bool.{leb-true}
use Rattle.subsetter.specs.Glyf.Reaching.Closure.{first_byte_in}
use Rattle.subsetter.specs.Glyf.BareOutlines.Size.{requested_size}
use Rattle.subsetter.proofs.GlyfLaws.BareOutlinesLaws.Counts.{size_at_most, cut_lacks}
use Rattle.std.specs.Option.{option_copied}
use Rattle.subsetter.proofs.GlyfLaws.ReachingLaws.Closure.{none_wait}
use Rattle.subsetter.proofs.glyf.follow.Goals as goal

pub returns-else-is_composite-clause-ok : goal.returns-else-is_composite-clause-ok
returns-else-is_composite-clause-ok c = none_wait c.args.waiting.now.items c.args.order.now (option_copied c.args.outline) c.args.first c.requires (sym c.if-is_composite.ensures)

pub push_components-requires : goal.push_components-requires
push_components-requires c =
    omega (arith, c.requires, leb-true 128 c.args.first (sym c.if-is_composite.ensures), ap first_byte_in (ap option_copied c.in-Some.is))

pub returns-in-Some-clause-size : goal.returns-in-Some-clause-size
returns-in-Some-clause-size c = size_at_most c.push_components.result _ _ (ap (requested_size c.args.hinting) (sym (ap option_copied c.in-Some.is))) c.push_components.ensures.size

pub returns-in-Some-clause-cut : goal.returns-in-Some-clause-cut
returns-in-Some-clause-cut c = cut_lacks c.push_components.result c.in-Some.outline.now _ (ap option_copied c.in-Some.is) c.push_components.ensures.cut
