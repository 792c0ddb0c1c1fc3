use Rattle.std.proofs.Common.{◌≡◌, [], Some}
use Rattle.std.specs.Prelude.{filter}
use Rattle.subsetter_base.specs.Items.{values}
use Rattle.subsetter.specs.Common.Name.Read.{is_kept_record}
use Rattle.subsetter_sfnt.specs.Fields.Name.{name_record_of}
use Rattle.subsetter.specs.Common.Name.Plain.{placed, laid_after}
use Rattle.subsetter.proofs.common.name.collect_names.Given as goal

abbrev pub invariant-loop-record : goal.invariant-loop-record
invariant-loop-record l = laid_after l.front (placed l.table.storage.now l.strings (filter is_kept_record (values 12 (λ bytes. Some (name_record_of bytes)) l.record-iterator))) ≡ laid_after [] (placed l.table.storage.now [] (filter is_kept_record (values 12 (λ bytes. Some (name_record_of bytes)) l.initial.record-iterator)))
