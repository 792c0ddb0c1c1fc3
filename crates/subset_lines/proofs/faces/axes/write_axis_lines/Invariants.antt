use Rattle.std.proofs.Common.{drop}
use Rattle.subset_lines.specs.Faces.Axes.{axis_lines}
use Rattle.plain_text.proofs.Written.{Reaches}
use Rattle.subset_lines.proofs.faces.axes.write_axis_lines.Given as goal

abbrev pub invariant-loop-axis : goal.invariant-loop-axis
invariant-loop-axis g l = Reaches (g.W.Write.contents l.fn.out) (g.W.Write.contents l.out) (axis_lines (drop l.axis-index l.axes)) (axis_lines l.axes)
