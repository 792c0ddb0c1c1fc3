use Rattle.std.proofs.Common.{◌≡◌, length, map}
use Rattle.subset_args.specs.Request.{lists_in_stream}
use Rattle.subset_args.specs.View.{requested_view}
use Rattle.subset_task.proofs.batch.orders.lists_in_stream.Given as goal

abbrev pub invariant-loop-rest : goal.invariant-loop-rest
invariant-loop-rest l = lists_in_stream (map requested_view l.rest) ≡ lists_in_stream (map requested_view l.glyphs)

abbrev pub decreases-loop-rest : goal.decreases-loop-rest
decreases-loop-rest l = length l.rest
