use Rattle.subsetter_cff.specs.Read.Entries.FirstEntries.{AreCells}
use Rattle.subsetter_cff.proofs.read.entries.first_entries.first_entries.Given as goal

abbrev pub invariant-loop-at : goal.invariant-loop-at
invariant-loop-at g l = AreCells (g.S.Search.saying l.search) l.bytes l.cells.items l.at
