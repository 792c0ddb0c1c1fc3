use Rattle.std.proofs.Common.{◌≡◌, ◌-◌, ◌/◌, ◌≤◌, length, drop}
use Rattle.subsetter_sfnt.specs.Read.{directory_records, find_record}
use Rattle.subsetter_sfnt.proofs.directory.find_record.Given as goal

abbrev pub invariant-loop-bytes : goal.invariant-loop-bytes
invariant-loop-bytes l = record {
  same : l.r.bytes ≡ l.records;
  within : l.r.offset ≤ length l.records;
  rest : find_record l.tag.0 (directory_records ((length l.records - l.r.offset) / 16) (drop l.r.offset l.records)) ≡ find_record l.tag.0 (directory_records (length l.records / 16) l.records);
}

abbrev pub decreases-loop-bytes : goal.decreases-loop-bytes
decreases-loop-bytes l = length l.records - l.r.offset
