use Rattle.std.proofs.Common.{drop, []}
use Rattle.subset_lines.specs.Faces.Settings.{settings_by}
use Rattle.plain_text.proofs.Written.{Reaches}
use Rattle.subset_lines.proofs.faces.settings.write_each.Given as goal

abbrev pub invariant-loop-axis : goal.invariant-loop-axis
invariant-loop-axis g l = Reaches (g.W.Write.contents l.fn.out) (g.W.Write.contents l.out) (settings_by l.form l.before (drop l.axis-index l.axes) l.rest) (settings_by l.form [] l.axes l.bytes)
