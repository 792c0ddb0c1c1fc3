use Rattle.std.proofs.Common.{arith}
use Rattle.subsetter_cff.specs.Write.NewDicts.TopDictView.{offsets_of}
use Rattle.subsetter_cff.proofs.WriteLaws.LayingLaws.FrontDrafts.{top_written}
use Rattle.subsetter_cff.proofs.write.laying.front.rewrite_top_dict_index.Goals as goal

pub returns-clause-ok : goal.returns-clause-ok
returns-clause-ok c =
    top_written c.write_offsets.result c.args.w.now c.args.named.now (offsets_of c.args.offsets.now) c.write_single_header.new.w c.extend.new.self c.write_offsets.new.w _ (omega arith)
    c.in_ok-write_single_header.ensures.ok
    c.in_ok-extend.ensures.ok
    c.write_offsets.ensures.ok
