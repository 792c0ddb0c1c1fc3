use Rattle.std.proofs.Common.{drop, []}
use Rattle.subset_lines.specs.Objects.AxesJson.{axis_objects}
use Rattle.plain_text.proofs.Written.{Reaches}
use Rattle.subset_lines.proofs.objects.axes_json.write_axis_objects.Given as goal

abbrev pub invariant-loop-axis : goal.invariant-loop-axis
invariant-loop-axis g l = Reaches (g.W.Write.contents l.fn.out) (g.W.Write.contents l.out) (axis_objects l.before (drop l.axis-index l.axes)) (axis_objects [] l.axes)
