use Rattle.std.proofs.Common.{drop}
use Rattle.subsetter_instance.proofs.TablesLaws.RequestedLemmas.{IsWritten}
use Rattle.subsetter_instance.proofs.tables.writing.hmtx.Given as goal

abbrev pub invariant-loop-glyph : goal.invariant-loop-glyph
invariant-loop-glyph l = IsWritten l.mapper l.drawn l.count (drop l.glyph-index l.order) l.hmtx.items
