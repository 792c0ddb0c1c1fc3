use Rattle.std.proofs.Common.{length}
use Rattle.subset_lines.specs.Faces.Names.{text_of_units}
use Rattle.plain_text.proofs.Written.{Reaches}
use Rattle.subset_lines.proofs.faces.names.write_units.Given as goal

abbrev pub invariant-loop-rest : goal.invariant-loop-rest
invariant-loop-rest g l = Reaches (g.W.Write.contents l.fn.out) (g.W.Write.contents l.out) (text_of_units l.rest) (text_of_units l.bytes)

abbrev pub decreases-loop-rest : goal.decreases-loop-rest
decreases-loop-rest g l = length l.rest
