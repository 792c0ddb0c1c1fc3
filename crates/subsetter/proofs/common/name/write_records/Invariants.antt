use Rattle.std.proofs.Common.{◌≡◌, ◌++◌, Some}
use Rattle.std.specs.Prelude.{flat_map}
use Rattle.subsetter_base.specs.Items.{values}
use Rattle.subsetter_sfnt.specs.Fields.Name.{name_record_of, name_record_bytes}
use Rattle.subsetter.proofs.common.name.write_records.Given as goal

abbrev pub invariant-loop-record : goal.invariant-loop-record
invariant-loop-record l = l.w ++ flat_map name_record_bytes (values 12 (λ bytes. Some (name_record_of bytes)) l.record-iterator) ≡ l.fn.w ++ flat_map name_record_bytes (values 12 (λ bytes. Some (name_record_of bytes)) l.initial.record-iterator)
