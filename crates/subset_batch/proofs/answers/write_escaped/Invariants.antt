use Rattle.std.proofs.Common.{drop}
use Rattle.subset_batch.specs.Written.{escaped_text}
use Rattle.plain_text.proofs.Written.{Reaches}
use Rattle.subset_batch.proofs.answers.write_escaped.Given as goal

abbrev pub invariant-loop-b : goal.invariant-loop-b
invariant-loop-b g l = Reaches (g.W.Write.contents l.fn.out) (g.W.Write.contents l.out) (escaped_text (drop l.b-index l.text)) (escaped_text l.text)
