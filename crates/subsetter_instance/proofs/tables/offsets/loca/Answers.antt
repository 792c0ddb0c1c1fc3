use Rattle.std.proofs.Common.{get_or, refl, arith}
use Rattle.subsetter_instance.proofs.TablesLaws.RunLemmas.{loca_more, loca_end}
use Rattle.subsetter_instance.proofs.tables.offsets.loca.Goals as goal

pub loop-k-preserved : goal.loop-k-preserved
loop-k-preserved c =
    loca_more c.args.long c.args.count c.args.end c.loop-k.next _ c.saturating_sub.result (get_or c.args.starts.now c.loop-k.k 0) c.loop-k.k c.args.order.now c.args.starts.now c.loop-k.loca.items c.write_run.new.loca.items _
    (omega arith) c.requires (omega (arith, c.from-following.ensures)) c.saturating_sub.ensures refl c.in_ok-write_run.ensures.ok c.loop-k.invariant

pub returns-clause-ok : goal.returns-clause-ok
returns-clause-ok c =
    loca_end c.args.long c.args.count c.args.end c.loop-k.next c.saturating_sub-2.result c.loop-k.k c.args.order.now c.args.starts.now c.loop-k.loca.items c.write_run-2.new.loca.items _
    (omega arith) (omega (arith, c.saturating_sub-2.ensures, c.from-entries.ensures)) c.in_ok-write_run-2.ensures.ok c.loop-k.invariant
