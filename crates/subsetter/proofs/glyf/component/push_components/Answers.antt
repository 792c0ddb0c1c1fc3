use Rattle.std.proofs.Common.{◌≡◌, ℕ, ◌+◌, ◌-◌, List, length, take, drop, refl, sym, ap, ◌∙◌, inr, arith}
use Rattle.std.proofs.lemmas.List.{length-drop}
use Rattle.subsetter_base.proofs.Lists.{rest_of}
use Rattle.subsetter.specs.Glyf.Parts.{rest_size, numbers_at}
use Rattle.subsetter.specs.Glyf.View.{component_seen}
use Rattle.subsetter.proofs.GlyfLaws.Chains.{is_component}
use Rattle.subsetter.proofs.GlyfLaws.Walk.{text_size, all_wait, size_goes_on, size_ends, size_fails, counted_whole, cut_whole, short_whole, waits_on, waits_end, waits_start}
use Rattle.subsetter.proofs.glyf.component.push_components.Goals as goal

pub returns-then-outline-lt-HEADER_SIZE-clause-err : goal.returns-then-outline-lt-HEADER_SIZE-clause-err
returns-then-outline-lt-HEADER_SIZE-clause-err c = inr (refl, short_whole c.args.outline.now (omega arith) c.requires)

pub loop-component-init : goal.loop-component-init
loop-component-init c =
    let outline = c.args.outline.now in
    let hint = c.args.hinting in
    let order = c.args.order.now in
    let waiting = c.args.waiting.now.items in
    let rest = take (length outline - 10) (drop 10 outline) in
    let all : rest ≡ drop 10 outline = rest_of 10 outline in
    let long : length rest ≡ length outline - 10 = ap length all ∙ length-drop 10 outline in
    let front : length outline - length rest ≡ 10 = omega (arith, long, c.if-outline-lt-HEADER_SIZE.false) in
    record {
      within = omega (arith, long);
      sized = ap (λ n. text_size hint order n rest) front ∙ ap (text_size hint order 10) all;
      waits = ap (λ (l : List ℕ). all_wait order waiting (numbers_at (length l) l)) all ∙ waits_start order waiting outline (omega (arith, c.if-outline-lt-HEADER_SIZE.false)) c.requires;
    }

pub push_cut-requires : goal.push_cut-requires
push_cut-requires c = sym c.in_default.ensures

pub returns-in_default-clause-ok : goal.returns-in_default-clause-ok
returns-in_default-clause-ok c = c.in_ok-push_cut.ensures.ok ∙ c.loop-component.invariant.waits

pub returns-in_default-clause-cut : goal.returns-in_default-clause-cut
returns-in_default-clause-cut c =
    let outline = c.args.outline.now in
    let order = c.args.order.now in
    let fails = size_fails c.args.hinting order _ c.loop-component.rest.now (text_size c.args.hinting order 10 (drop 10 outline)) (sym c.in_default.ensures) c.loop-component.invariant.sized in
    λ e. cut_whole c.args.hinting order outline 10 (omega (arith, c.if-outline-lt-HEADER_SIZE.false)) c.requires fails

pub returns-then-not-has_more-clause-ok : goal.returns-then-not-has_more-clause-ok
returns-then-not-has_more-clause-ok c =
    waits_end c.args.order.now c.loop-component.waiting.items c.push_new.new.waiting.items c.loop-component.rest.now c.rest_after-rest.result.now (component_seen c.in-Some.component) _ (sym c.in-Some.ensures) c.rest_after-rest.ensures (sym c.if-not-has_more.ensures) c.in_ok-push_new.ensures.ok c.loop-component.invariant.waits

pub returns-then-not-has_more-clause-size : goal.returns-then-not-has_more-clause-size
returns-then-not-has_more-clause-size c =
    let outline = c.args.outline.now in
    let order = c.args.order.now in
    let component = component_seen c.in-Some.component in
    let rest = c.loop-component.rest.now in
    let after = c.rest_after-rest.result.now in
    let whole = is_component rest component (sym c.in-Some.ensures) in
    let left : length after ≡ length rest - (4 + rest_size component.flags) = ap length c.rest_after-rest.ensures ∙ length-drop (4 + rest_size component.flags) rest in
    let ends = size_ends c.args.hinting order (length outline - length rest) rest component (length outline - length after + c.kept_len-kept.result) c.kept_len-kept.result after (text_size c.args.hinting order 10 (drop 10 outline)) (sym c.in-Some.ensures) (sym c.if-not-has_more.ensures) c.rest_after-rest.ensures c.kept_len-kept.ensures (omega (arith, whole.within, left, c.loop-component.invariant.within)) c.loop-component.invariant.sized in
    λ e. counted_whole c.args.hinting order outline (length outline - length after + c.kept_len-kept.result) (omega (arith, c.if-outline-lt-HEADER_SIZE.false)) c.requires ends

pub loop-component-preserved : goal.loop-component-preserved
loop-component-preserved c =
    let outline = c.args.outline.now in
    let order = c.args.order.now in
    let component = component_seen c.in-Some.component in
    let rest = c.loop-component.rest.now in
    let after = c.rest_after-rest.result.now in
    let whole = is_component rest component (sym c.in-Some.ensures) in
    let left : length after ≡ length rest - (4 + rest_size component.flags) = ap length c.rest_after-rest.ensures ∙ length-drop (4 + rest_size component.flags) rest in
    let i = c.loop-component.invariant in
    record {
      within = omega (arith, left, i.within);
      sized = size_goes_on c.args.hinting order (length outline - length rest) rest component (length outline - length after) after _ (sym c.in-Some.ensures) (sym c.if-not-has_more.ensures) c.rest_after-rest.ensures (omega (arith, whole.within, left, i.within)) i.sized;
      waits = waits_on order c.loop-component.waiting.items c.push_new.new.waiting.items rest after component _ (sym c.in-Some.ensures) c.rest_after-rest.ensures (sym c.if-not-has_more.ensures) c.in_ok-push_new.ensures.ok i.waits;
    }
