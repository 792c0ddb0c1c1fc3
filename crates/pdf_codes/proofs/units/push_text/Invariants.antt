use Rattle.std.proofs.Common.{◌≡◌, ◌++◌, drop}
use Rattle.pdf_codes.specs.Units.{units_of}
use Rattle.pdf_codes.proofs.units.push_text.Given as goal

abbrev pub invariant-loop-character : goal.invariant-loop-character
invariant-loop-character l = l.units.items ++ units_of (drop l.character-index l.text) ≡ l.fn.units.items ++ units_of l.text
