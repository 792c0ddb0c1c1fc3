use Rattle.std.proofs.Common.{◌≡◌, ◌++◌, drop, map}
use Rattle.pdf_text_font.specs.Texts.{units_by}
use Rattle.pdf_text_font.proofs.texts.units_of.Given as goal

abbrev pub invariant-loop-pair : goal.invariant-loop-pair
invariant-loop-pair l = l.units.items ++ map units_by (drop l.pair-index l.pairs) ≡ map units_by l.pairs
