use Rattle.std.proofs.Common.{◌++◌, length}
use Rattle.subset_batch.specs.Words.{option_words}
use Rattle.subset_batch.specs.View.{words_view, members_view}
use Rattle.subset_batch.proofs.Appends.{Reaches}
use Rattle.subset_batch.proofs.request.push_options.Given as goal

abbrev pub invariant-loop-rest : goal.invariant-loop-rest
invariant-loop-rest l = Reaches (words_view l.words.items) (option_words (members_view l.rest)) (words_view l.fn.words.items ++ option_words (members_view l.members))

abbrev pub decreases-loop-rest : goal.decreases-loop-rest
decreases-loop-rest l = length l.rest
