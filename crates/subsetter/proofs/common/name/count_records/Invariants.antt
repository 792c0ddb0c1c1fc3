use Rattle.std.proofs.Common.{◌≡◌, ◌+◌, ◌%◌, length, Some}
use Rattle.subsetter_base.specs.Items.{values}
use Rattle.subsetter_sfnt.specs.Fields.Name.{name_record_of}
use Rattle.subsetter.proofs.common.name.count_records.Given as goal

abbrev pub invariant-loop-record : goal.invariant-loop-record
invariant-loop-record l = (l.count + length (values 12 (λ bytes. Some (name_record_of bytes)) l._record-iterator)) % 65536 ≡ length (values 12 (λ bytes. Some (name_record_of bytes)) l.initial._record-iterator) % 65536
