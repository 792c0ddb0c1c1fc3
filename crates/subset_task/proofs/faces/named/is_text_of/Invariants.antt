use Rattle.std.proofs.Common.{◌≡◌, length}
use Rattle.subset_lines.specs.Faces.Names.{text_of_units}
use Rattle.subset_task.specs.Faces.Named.{is_same_name}
use Rattle.subset_task.proofs.faces.named.is_text_of.Given as goal

abbrev pub invariant-loop-rest : goal.invariant-loop-rest
invariant-loop-rest l = is_same_name (text_of_units l.rest) l.left ≡ is_same_name (text_of_units l.units) l.name

abbrev pub decreases-loop-rest : goal.decreases-loop-rest
decreases-loop-rest l = length l.rest
