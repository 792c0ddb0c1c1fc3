use Rattle.std.proofs.Common.{◌≡◌, ◌-◌, ◌≤◌, ◌++◌, length}
use Rattle.subset_task.specs.Faces.Tables.{new_rows, records_in}
use Rattle.subset_task.proofs.FacesLaws.Directory.{records_from}
use Rattle.subset_task.proofs.faces.tables.push_new_rows.Given as goal

abbrev pub invariant-loop-one : goal.invariant-loop-one
invariant-loop-one l = record {
  same : l.r.bytes ≡ l.new;
  within : l.r.offset ≤ length l.new;
  rest : l.rows.items ++ new_rows (records_in l.old) (records_from l.new l.r.offset) ≡ l.fn.rows.items ++ new_rows (records_in l.old) (records_in l.new);
}

abbrev pub decreases-loop-one : goal.decreases-loop-one
decreases-loop-one l = length l.new - l.r.offset
