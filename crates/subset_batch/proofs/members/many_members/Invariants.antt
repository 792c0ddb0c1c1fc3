use Rattle.std.proofs.Common.{◌≡◌, ◌-◌}
use Rattle.subset_batch.specs.declared.fault.Wanted.TheVariants.{CommaOrBrace}
use Rattle.subset_batch.specs.Reading.{with_front, many, member_step}
use Rattle.subset_batch.specs.View.{members_view}
use Rattle.subset_batch.proofs.members.many_members.Given as goal

abbrev pub invariant-loop : goal.invariant-loop
invariant-loop l = with_front (members_view l.members.items) (many member_step CommaOrBrace (l.count - l.counter) l.rest) ≡ many member_step CommaOrBrace l.count l.bytes
