use Rattle.std.proofs.Common.{Some, ap, sym, ◌∙◌}
use Rattle.std.specs.Option.{option_copied}
use Rattle.subsetter_base.specs.Items.{values}
use Rattle.subsetter_sfnt.specs.Fields.Name.{name_record_of}
use Rattle.subsetter.proofs.CommonLaws.NameLaws.Placed.{one_more}
use Rattle.subsetter.proofs.common.name.collect_names.Goals as goal

pub loop-record-preserved-in-Continue-branch-3 : goal.loop-record-preserved-in-Continue-branch-3
loop-record-preserved-in-Continue-branch-3 c =
    one_more c.args.table.now.storage.now c.loop-record.front c.write.new.self c.loop-record.strings c.offset_of.new.self c.in-Some.record (values 12 (λ bytes. Some (name_record_of bytes)) c.loop-record.record-iterator) (values 12 (λ bytes. Some (name_record_of bytes)) c.next.new.self)
    c.in_ok-string.string.now c.in_ok-string_offset.string_offset _ c.in-Some.ensures.steps (sym c.is_kept.ensures ∙ c.if-is_kept.true) (sym c.string.ensures ∙ ap option_copied c.in_ok-string.ensures.ok_part) c.in_ok-string_offset.ensures.offset c.in_ok-string_offset.ensures.list c.in_ok-write.ensures.ok c.loop-record.invariant
