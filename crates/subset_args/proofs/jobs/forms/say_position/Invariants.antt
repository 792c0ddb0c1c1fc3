use Rattle.std.proofs.Common.{◌≡◌, length}
use Rattle.subset_args.specs.Forms.{say_position}
use Rattle.subset_args.specs.View.{words_view}
use Rattle.subset_args.proofs.jobs.forms.say_position.Given as goal

abbrev pub invariant-loop-rest : goal.invariant-loop-rest
invariant-loop-rest l = say_position (words_view l.rest) ≡ say_position (words_view l.words)

abbrev pub decreases-loop-rest : goal.decreases-loop-rest
decreases-loop-rest l = length l.rest
