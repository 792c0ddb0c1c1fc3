use Rattle.std.proofs.Common.{◌≡◌, ◌++◌, drop}
use Rattle.subsetter_text_c.specs.Own.{parts_of}
use Rattle.subsetter_text_c.proofs.own.parts_of.Given as goal

abbrev pub invariant-loop-glyph : goal.invariant-loop-glyph
invariant-loop-glyph l = l.parts.items ++ parts_of (drop l.glyph-index l.own) ≡ parts_of l.own
