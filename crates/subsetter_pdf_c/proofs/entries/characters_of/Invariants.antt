use Rattle.std.proofs.Common.{◌≡◌, ◌++◌, drop}
use Rattle.subsetter_pdf_c.proofs.entries.characters_of.Given as goal

abbrev pub invariant-loop-number : goal.invariant-loop-number
invariant-loop-number l = l.characters.items ++ drop l.number-index l.text ≡ l.text
