use Rattle.std.proofs.Common.{◌≡◌, drop}
use Rattle.subsetter_pdf_c.specs.Entries.{are_scalars}
use Rattle.subsetter_pdf_c.proofs.entries.are_scalars.Given as goal

abbrev pub invariant-loop-number : goal.invariant-loop-number
invariant-loop-number l = are_scalars (drop l.number-index l.text) ≡ are_scalars l.text
