use Rattle.std.proofs.Common.{◌≡◌, ◌-◌, ◌≤◌, ◌++◌, map, length}
use Rattle.subset_task.specs.Faces.Tables.{tag_and_size, records_in}
use Rattle.subset_task.proofs.FacesLaws.Directory.{records_from}
use Rattle.subset_task.proofs.faces.tables.tables_of.Given as goal

abbrev pub invariant-loop-one : goal.invariant-loop-one
invariant-loop-one l = record {
  same : l.r.bytes ≡ l.records;
  within : l.r.offset ≤ length l.records;
  rest : l.tables.items ++ map tag_and_size (records_from l.records l.r.offset) ≡ map tag_and_size (records_in l.records);
}

abbrev pub decreases-loop-one : goal.decreases-loop-one
decreases-loop-one l = length l.records - l.r.offset
