use Rattle.std.proofs.Common.{◌≡◌, ◌++◌, drop}
use Rattle.pdf_text.specs.Cmaps.Cmap.{words}
use Rattle.pdf_text.proofs.cmaps.lines.write_words.Given as goal

abbrev pub invariant-loop-unit : goal.invariant-loop-unit
invariant-loop-unit l = l.text.items ++ words (drop l.unit-index l.units) ≡ l.fn.text.items ++ words l.units
