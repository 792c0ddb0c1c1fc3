use Rattle.std.proofs.Common.{◌≡◌, length}
use Rattle.subset_args.specs.Forms.{taken}
use Rattle.subset_args.specs.View.{words_view}
use Rattle.subset_args.proofs.options.joined.taken.Given as goal

abbrev pub invariant-loop-rest : goal.invariant-loop-rest
invariant-loop-rest l = taken (words_view l.rest) ≡ taken (words_view l.words)

abbrev pub decreases-loop-rest : goal.decreases-loop-rest
decreases-loop-rest l = length l.rest
