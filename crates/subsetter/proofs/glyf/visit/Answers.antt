use Rattle.std.proofs.Common.{◌+◌, ◌<◌, ◌≤◌, ◌^◌, List, ℕ, rules, length, sym, subst, ◌∙◌, arith}
use Rattle.subsetter_base.proofs.Options.{none_of}
use Rattle.subsetter.specs.Glyf.Reaching.Closure.{LacksParts}
use Rattle.subsetter.specs.Glyf.BareOutlines.Size.{requested_size}
use Rattle.subsetter.specs.Glyf.View.{seen}
use Rattle.subsetter.proofs.GlyfLaws.ReachingLaws.Closure.{few_found, room_left, gone_last}
use Rattle.subsetter.proofs.GlyfLaws.BareOutlinesLaws.Sizes.{further_size}
use Rattle.subsetter.proofs.glyf.visit.Goals as goal

pub returns-clause-ok : goal.returns-clause-ok
returns-clause-ok c = record {
  is_last = search rules;
  wait = search rules;
  few = subst (λ (l : List ℕ). length l < length c.args.waiting.now.items + 2 ^ 32) (sym c.in_ok-count.ensures.ok) (few_found c.args.waiting.now.items c.remap.new.self c.glyph_data-outline.result c.glyph_data-outline.ensures.small);
  room = room_left c.args.order.now c.remap.new.self c.args.glyph c.in_ok-remap.ensures.list (omega (arith, c.num_gids-known.ensures.count, c.num_gids-known.ensures.few, c.if-known.false));
}

pub returns-clause-size : goal.returns-clause-size
returns-clause-size c =
    let t = seen c.args.table.now in
    λ e. further_size t c.args.order.now c.remap.new.self c.args.glyph c.in_ok-count.count.bytes (gone_last c.args.order.now c.remap.new.self c.args.glyph (sym c.get.ensures ∙ none_of c.get.result (sym c.if-is_some.ensures)) c.in_ok-remap.ensures.list)
    (subst (λ o. c.in_ok-count.count.bytes ≤ requested_size t.hinting o) c.glyph_data-outline.ensures.exact (c.in_ok-count.ensures.size e))

pub returns-clause-cut : goal.returns-clause-cut
returns-clause-cut c = λ e. subst LacksParts c.glyph_data-outline.ensures.exact (c.in_ok-count.ensures.cut e)
