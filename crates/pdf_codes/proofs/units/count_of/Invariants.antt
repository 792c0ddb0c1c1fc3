use Rattle.std.proofs.Common.{◌≡◌, ◌+◌, length, drop}
use Rattle.pdf_codes.specs.Units.{units_of}
use Rattle.pdf_codes.proofs.units.count_of.Given as goal

abbrev pub invariant-loop-character : goal.invariant-loop-character
invariant-loop-character l = l.count + length (units_of (drop l.character-index l.text)) ≡ length (units_of l.text)
