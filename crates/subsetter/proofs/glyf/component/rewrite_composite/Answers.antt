use Rattle.std.proofs.Common.{◌≡◌, ℕ, ◌-◌, List, Option, ◌++◌, length, take, drop, sym, ap, ◌∙◌, arith, rules}
use Rattle.std.specs.Option.{ok_or}
use Rattle.subsetter_base.proofs.Lists.{rest_of}
use Rattle.subsetter_base.specs.declared.error.Error.TheVariants.{MalformedFont}
use Rattle.subsetter_base.specs.Gives.{following}
use Rattle.subsetter.specs.Glyf.View.{component_seen}
use Rattle.subsetter.proofs.GlyfLaws.Chains.{with_front, chain_text, text_fails, composite_short, composite_after}
use Rattle.subsetter.proofs.GlyfLaws.Renumbering.{underway_starts, underway_next, underway_ends, after_starts, after_next}
use Rattle.subsetter.proofs.glyf.component.rewrite_composite.Goals as goal

pub returns-then-outline-lt-HEADER_SIZE-clause-err : goal.returns-then-outline-lt-HEADER_SIZE-clause-err
returns-then-outline-lt-HEADER_SIZE-clause-err c = ap (following c.args.out.now.items) (composite_short c.args.hinting c.args.order.now c.args.outline.now (omega arith))

pub loop-component-init : goal.loop-component-init
loop-component-init c =
    let outline = c.args.outline.now in
    let before = c.args.out.now.items in
    let all = c.in_ok-extend_from_slice.ensures.items in
    record {
      written = underway_starts c.args.hinting c.args.order.now before outline c.extend_from_slice.new.self.items _ (omega arith) all (rest_of 10 outline);
      start = search rules;
      following = after_starts before outline c.extend_from_slice.new.self.items _ all (rest_of 10 outline);
    }

pub returns-in_default-clause-err : goal.returns-in_default-clause-err
returns-in_default-clause-err c =
    let order = c.args.order.now in
    let outline = c.args.outline.now in
    let before = c.args.out.now.items in
    let total = with_front (before ++ take 10 outline) (chain_text c.args.hinting order (drop 10 outline)) in
    composite_after c.args.hinting before order outline (omega arith) ∙ ap (λ (o : Option (List ℕ)). ok_or o MalformedFont) (text_fails c.args.hinting order _ c.loop-component.rest.now total (sym c.in_default.ensures) c.loop-component.invariant.written.whole)

pub returns-then-not-has_more-clause-ok : goal.returns-then-not-has_more-clause-ok
returns-then-not-has_more-clause-ok c =
    let order = c.args.order.now in
    let outline = c.args.outline.now in
    let before = c.args.out.now.items in
    let total = with_front (before ++ take 10 outline) (chain_text c.args.hinting order (drop 10 outline)) in
    let left = length c.loop-component.rest.now in
    let at = c.len.result - left in
    let place : at ≡ length c.loop-component.out.items - left = omega (arith, c.len.ensures) in
    let is = underway_ends c.args.hinting order c.loop-component.out.items c.loop-component.rest.now at (component_seen c.in-Some.component) c.renumber.new.out.items c.rest_after-rest.result.now c.cut_tail.new.out.items total c.loop-component.invariant.written place (sym c.in-Some.ensures) c.renumber.ensures c.rest_after-rest.ensures (sym c.if-not-has_more.ensures) c.cut_tail.ensures in
    composite_after c.args.hinting before order outline (omega arith) ∙ ap (λ (o : Option (List ℕ)). ok_or o MalformedFont) is

pub loop-component-preserved : goal.loop-component-preserved
loop-component-preserved c =
    let order = c.args.order.now in
    let outline = c.args.outline.now in
    let before = c.args.out.now.items in
    let component = component_seen c.in-Some.component in
    let total = with_front (before ++ take 10 outline) (chain_text c.args.hinting order (drop 10 outline)) in
    let left = length c.loop-component.rest.now in
    let at = c.len.result - left in
    let place : at ≡ length c.loop-component.out.items - left = omega (arith, c.len.ensures) in
    record {
      written = underway_next c.args.hinting order c.loop-component.out.items c.loop-component.rest.now at component c.renumber.new.out.items c.rest_after-rest.result.now total c.loop-component.invariant.written place (sym c.in-Some.ensures) c.renumber.ensures c.rest_after-rest.ensures (sym c.if-not-has_more.ensures);
      start = c.loop-component.invariant.start;
      following = after_next c.args.hinting before order c.loop-component.out.items c.loop-component.rest.now at component c.renumber.new.out.items c.rest_after-rest.result.now c.loop-component.invariant.following place (sym c.in-Some.ensures) c.renumber.ensures c.rest_after-rest.ensures;
    }
