use Rattle.std.proofs.Common.{◌≡◌, drop}
use Rattle.subsetter_pdf_c.specs.Entries.{are_ascending}
use Rattle.subsetter_pdf_c.proofs.entries.are_ascending.Given as goal

abbrev pub invariant-loop-end : goal.invariant-loop-end
invariant-loop-end l = are_ascending l.last (drop l.end-index l.ends) l.count ≡ are_ascending 0 l.ends l.count
