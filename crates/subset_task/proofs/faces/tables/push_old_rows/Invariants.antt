use Rattle.std.proofs.Common.{◌≡◌, ◌-◌, ◌≤◌, ◌++◌, map, length}
use Rattle.subset_task.specs.Faces.Tables.{old_row, records_in}
use Rattle.subset_task.proofs.FacesLaws.Directory.{records_from}
use Rattle.subset_task.proofs.faces.tables.push_old_rows.Given as goal

abbrev pub invariant-loop-one : goal.invariant-loop-one
invariant-loop-one l = record {
  same : l.r.bytes ≡ l.old;
  within : l.r.offset ≤ length l.old;
  rest : l.rows.items ++ map (old_row (records_in l.new)) (records_from l.old l.r.offset) ≡ l.fn.rows.items ++ map (old_row (records_in l.new)) (records_in l.old);
}

abbrev pub decreases-loop-one : goal.decreases-loop-one
decreases-loop-one l = length l.old - l.r.offset
