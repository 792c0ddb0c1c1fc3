use Rattle.std.proofs.Common.{◌≡◌, length, map}
use Rattle.subset_args.specs.Request.{wrong_stream}
use Rattle.subset_args.specs.View.{source_view}
use Rattle.subset_args.proofs.jobs.parts.wrong_stream.Given as goal

abbrev pub invariant-loop-rest : goal.invariant-loop-rest
invariant-loop-rest l = wrong_stream l.is_taken (map source_view l.rest) ≡ wrong_stream l.fn.is_taken (map source_view l.sources)

abbrev pub decreases-loop-rest : goal.decreases-loop-rest
decreases-loop-rest l = length l.rest
