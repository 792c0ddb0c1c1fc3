use Rattle.std.proofs.Common.{◌++◌, length}
use Rattle.std.specs.Prelude.{codes, string_bytes}
use Rattle.subset_batch.specs.Words.{joined}
use Rattle.subset_batch.specs.View.{words_view}
use Rattle.subset_batch.proofs.Appends.{Reaches}
use Rattle.subset_batch.proofs.request.push_after.Given as goal

abbrev pub invariant-loop-rest : goal.invariant-loop-rest
invariant-loop-rest l = Reaches (string_bytes l.text) (joined (codes ",") (words_view l.rest)) (string_bytes l.fn.text ++ joined (codes ",") (words_view l.texts))

abbrev pub decreases-loop-rest : goal.decreases-loop-rest
decreases-loop-rest l = length l.rest
