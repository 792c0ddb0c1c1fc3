use Rattle.std.proofs.Common.{◌≡◌, ◌++◌, drop, map}
use Rattle.pdf_own_runs.specs.Fonts.{all_inked, has_parts}
use Rattle.pdf_own_runs.proofs.expanded.all_inked.Given as goal

abbrev pub invariant-loop-glyph : goal.invariant-loop-glyph
invariant-loop-glyph l = l.all.items ++ map has_parts (drop l.glyph-index l.own) ≡ all_inked l.count l.fn.inked l.own
