use Rattle.std.proofs.Common.{◌≡◌, ◌*◌, ◌++◌}
use Rattle.subsetter_instance.proofs.TablesLaws.RunLemmas.{entries, row_count}
use Rattle.subsetter_instance.proofs.tables.offsets.write_run.Given as goal

abbrev pub invariant-loop-k : goal.invariant-loop-k
invariant-loop-k l = l.loca.items ≡ l.fn.loca.items ++ entries l.long l.offset (l.k * row_count l.long)
