use Rattle.std.proofs.Common.{◌≡◌, ◌++◌}
use Rattle.subsetter_instance.proofs.tables.requested.glyphs_of.Given as goal

abbrev pub invariant-loop-glyph : goal.invariant-loop-glyph
invariant-loop-glyph l = l.glyphs.items ++ l.glyph-iterator ≡ l.mapper
