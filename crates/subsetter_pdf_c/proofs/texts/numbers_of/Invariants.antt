use Rattle.std.proofs.Common.{◌≡◌, ◌++◌, drop, true}
use Rattle.subsetter_pdf_c.specs.Entries.{are_scalars}
use Rattle.subsetter_pdf_c.proofs.texts.numbers_of.Given as goal

abbrev pub invariant-loop-character : goal.invariant-loop-character
invariant-loop-character l = (l.list.items ++ drop l.character-index l.characters ≡ l.characters) × (are_scalars l.list.items ≡ true)
