use Rattle.std.proofs.Common.{◌≡◌, ◌-◌, ◌+◌, ◌∷◌, [], ap, ◌∙◌}
use Rattle.std.specs.Prelude.{map, String, string_bytes}
use Rattle.std.specs.Global.{Global}
use Rattle.subset_batch.specs.declared.fault.Wanted.TheVariants.{CommaOrBracket}
use Rattle.subset_batch.specs.Reading.{with_front, many, item_step}
use Rattle.subset_batch.proofs.Loop.{map_last, more_follow, none_follow, all_steps}
use Rattle.subset_batch.proofs.values.many_items.Goals as goal

pub returns-then-not-more : goal.returns-then-not-more
returns-then-not-more c =
    let e = ap (map (λ (t : String Global). string_bytes t)) c.in_ok-push.ensures.items ∙ map_last (λ (t : String Global). string_bytes t) c.loop.items.items c.in_ok-item.item in
    rw e (none_follow item_step CommaOrBracket (map (λ (t : String Global). string_bytes t) c.loop.items.items) c.args.count c.loop.counter c.loop.rest.now ((λ (t : String Global). string_bytes t) c.in_ok-item.item ∷ []) c.in_ok-item.more c.in_ok-item.following.now _ c.loop-test.true c.in_ok-item.ensures c.if-not-more.true c.loop.invariant)

pub loop-preserved : goal.loop-preserved
loop-preserved c =
    let e = ap (map (λ (t : String Global). string_bytes t)) c.in_ok-push.ensures.items ∙ map_last (λ (t : String Global). string_bytes t) c.loop.items.items c.in_ok-item.item in
    let all = many item_step CommaOrBracket c.args.count c.args.bytes.now in
    let h : with_front (map (λ (t : String Global). string_bytes t) c.push.new.self.items) (many item_step CommaOrBracket (c.args.count - (c.loop.counter + 1)) c.in_ok-item.following.now) ≡ all = rw e (more_follow item_step CommaOrBracket (map (λ (t : String Global). string_bytes t) c.loop.items.items) c.args.count c.loop.counter c.loop.rest.now ((λ (t : String Global). string_bytes t) c.in_ok-item.item ∷ []) c.in_ok-item.more c.in_ok-item.following.now all c.loop-test.true c.in_ok-item.ensures c.if-not-more.false c.loop.invariant) in
    h

pub returns : goal.returns
returns c = rw c.missing.ensures (all_steps item_step CommaOrBracket (map (λ (t : String Global). string_bytes t) c.loop.items.items) c.args.count c.loop.counter c.loop.rest.now _ c.loop-test.false c.loop.invariant)
