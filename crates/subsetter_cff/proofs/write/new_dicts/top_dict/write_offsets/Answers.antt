use Rattle.subsetter_cff.proofs.WriteLaws.NewDictsLaws.WrittenEntries.{five_written}
use Rattle.subsetter_cff.proofs.write.new_dicts.top_dict.write_offsets.Goals as goal

pub returns-clause-ok : goal.returns-clause-ok
returns-clause-ok c =
    five_written c.write_offset-4.result c.args.w.now c.write_offset.new.w c.write_offset-2.new.w c.write_integer.new.w c.write_offset-3.new.w c.write_offset-4.new.w _ _ _ _ _
    c.in_ok-write_offset.ensures.ok c.in_ok-write_offset-2.ensures.ok c.in_ok-write_integer.ensures.ok c.in_ok-write_offset-3.ensures.ok c.write_offset-4.ensures.ok
