use Rattle.std.proofs.Common.{◌≡◌, ◌++◌, drop}
use Rattle.subsetter_text_c.specs.Own.{owns_of}
use Rattle.subsetter_text_c.proofs.own.owns_of.Given as goal

abbrev pub invariant-loop-glyph : goal.invariant-loop-glyph
invariant-loop-glyph l = l.owns.items ++ owns_of l.end (drop l.glyph-index l.own) ≡ owns_of 0 l.own
