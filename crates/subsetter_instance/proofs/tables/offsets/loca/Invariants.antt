use Rattle.std.proofs.Common.{◌≡◌, ◌++◌, drop}
use Rattle.subsetter_sfnt.specs.Fields.Loca.{loca_bytes}
use Rattle.subsetter_instance.specs.Tables.Requested.{offsets_by}
use Rattle.subsetter_instance.proofs.tables.offsets.loca.Given as goal

abbrev pub invariant-loop-k : goal.invariant-loop-k
invariant-loop-k l = l.loca.items ++ loca_bytes l.long (offsets_by l.count l.end l.next (drop l.k l.order) (drop l.k l.starts)) ≡ loca_bytes l.long (offsets_by l.count l.end 0 l.order l.starts)
