use Rattle.std.proofs.Common.{◌*◌, refl, ap, arith}
use Rattle.subsetter_instance.proofs.TablesLaws.RunLemmas.{row_more, run_end}
use Rattle.subsetter_instance.proofs.tables.offsets.write_run.Goals as goal

pub loop-k-preserved : goal.loop-k-preserved
loop-k-preserved c =
    row_more c.args.long c.args.offset c.loop-k.k c.loop-k.loca.items c.extend_from_slice.new.self.items c.row_of-row.result c.args.loca.now.items c.in_ok-extend_from_slice.ensures.items c.row_of-row.ensures c.loop-k.invariant

pub returns-clause-ok : goal.returns-clause-ok
returns-clause-ok c =
    run_end c.args.long c.args.offset c.args.count _ c.loop-k.k c.loop-k.loca.items c.extend_from_slice-2.new.self.items c.row_of-row.result _ c.args.loca.now.items (ap (λ n. c.args.count * n) c.entry_size.ensures) (omega (arith, c.loop-k-test.false, c.loop-k.auto.k-end)) c.in_ok-extend_from_slice-2.ensures.items refl c.row_of-row.ensures c.loop-k.invariant
