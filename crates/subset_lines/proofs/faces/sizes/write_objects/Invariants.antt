use Rattle.std.proofs.Common.{drop, []}
use Rattle.subset_lines.specs.Faces.Sizes.{table_objects}
use Rattle.plain_text.proofs.Written.{Reaches}
use Rattle.subset_lines.proofs.faces.sizes.write_objects.Given as goal

abbrev pub invariant-loop-table : goal.invariant-loop-table
invariant-loop-table g l = Reaches (g.W.Write.contents l.fn.out) (g.W.Write.contents l.out) (table_objects l.before (drop l.table-index l.tables)) (table_objects [] l.tables)
