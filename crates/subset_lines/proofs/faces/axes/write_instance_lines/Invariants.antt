use Rattle.std.proofs.Common.{drop, map}
use Rattle.subset_lines.specs.Faces.Axes.{instance_lines}
use Rattle.plain_text.proofs.Written.{Reaches}
use Rattle.subset_lines.proofs.faces.axes.write_instance_lines.Given as goal

abbrev pub invariant-loop-bytes : goal.invariant-loop-bytes
invariant-loop-bytes g l = Reaches (g.W.Write.contents l.fn.out) (g.W.Write.contents l.out) (instance_lines l.axes l.names (map (λ b. b.now) (drop l.bytes-index l.records))) (instance_lines l.axes l.names (map (λ b. b.now) l.records))
