use Rattle.std.proofs.Common.{false, arith, slice_index_or}
use Rattle.subsetter_cff.proofs.WriteLaws.NewDictsLaws.UsedNumbers.{collected}
use Rattle.subsetter_cff2.proofs.selection.used.marked_numbers.Goals as goal

pub loop-i-preserved : goal.loop-i-preserved
loop-i-preserved c = collected (λ n. slice_index_or c.args.used.now n false) c.loop-i.places.items _ _ c.loop-i.i _ (omega arith) c.in_ok-put_marked.ensures c.loop-i.invariant
