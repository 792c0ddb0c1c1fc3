use Rattle.std.proofs.Common.{◌≡◌, ◌-◌}
use Rattle.subset_batch.specs.declared.fault.Wanted.TheVariants.{CommaOrBracket}
use Rattle.subset_batch.specs.Reading.{with_front, many, item_step}
use Rattle.subset_batch.specs.View.{words_view}
use Rattle.subset_batch.proofs.values.many_items.Given as goal

abbrev pub invariant-loop : goal.invariant-loop
invariant-loop l = with_front (words_view l.items.items) (many item_step CommaOrBracket (l.count - l.counter) l.rest) ≡ many item_step CommaOrBracket l.count l.bytes
