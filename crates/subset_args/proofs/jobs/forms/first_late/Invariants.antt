use Rattle.std.proofs.Common.{◌≡◌, length}
use Rattle.subset_args.specs.Forms.{first_late}
use Rattle.subset_args.specs.View.{words_view}
use Rattle.subset_args.proofs.jobs.forms.first_late.Given as goal

abbrev pub invariant-loop-rest : goal.invariant-loop-rest
invariant-loop-rest l = first_late (words_view l.rest) ≡ first_late (words_view l.words)

abbrev pub decreases-loop-rest : goal.decreases-loop-rest
decreases-loop-rest l = length l.rest
