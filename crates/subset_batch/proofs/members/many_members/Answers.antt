use Rattle.std.proofs.Common.{◌≡◌, ◌-◌, ◌+◌, ◌∷◌, [], ap, ◌∙◌}
use Rattle.std.specs.Prelude.{map}
use Rattle.subset_batch.specs.View.{member_view}
use Rattle.subset_batch.specs.declared.fault.Wanted.TheVariants.{CommaOrBrace}
use Rattle.subset_batch.specs.Reading.{with_front, many, member_step}
use Rattle.subset_batch.proofs.Loop.{map_last, more_follow, none_follow, all_steps}
use Rattle.subset_batch.proofs.members.many_members.Goals as goal

pub returns-then-not-more : goal.returns-then-not-more
returns-then-not-more c =
    let e = ap (map (member_view)) c.in_ok-push.ensures.items ∙ map_last (member_view) c.loop.members.items c.in_ok-member.member in
    rw e (none_follow member_step CommaOrBrace (map (member_view) c.loop.members.items) c.args.count c.loop.counter c.loop.rest.now ((member_view) c.in_ok-member.member ∷ []) c.in_ok-member.more c.in_ok-member.following.now _ c.loop-test.true c.in_ok-member.ensures c.if-not-more.true c.loop.invariant)

pub loop-preserved : goal.loop-preserved
loop-preserved c =
    let e = ap (map (member_view)) c.in_ok-push.ensures.items ∙ map_last (member_view) c.loop.members.items c.in_ok-member.member in
    let all = many member_step CommaOrBrace c.args.count c.args.bytes.now in
    let h : with_front (map (member_view) c.push.new.self.items) (many member_step CommaOrBrace (c.args.count - (c.loop.counter + 1)) c.in_ok-member.following.now) ≡ all = rw e (more_follow member_step CommaOrBrace (map (member_view) c.loop.members.items) c.args.count c.loop.counter c.loop.rest.now ((member_view) c.in_ok-member.member ∷ []) c.in_ok-member.more c.in_ok-member.following.now all c.loop-test.true c.in_ok-member.ensures c.if-not-more.false c.loop.invariant) in
    h

pub returns : goal.returns
returns c = rw c.missing.ensures (all_steps member_step CommaOrBrace (map (member_view) c.loop.members.items) c.args.count c.loop.counter c.loop.rest.now _ c.loop-test.false c.loop.invariant)
