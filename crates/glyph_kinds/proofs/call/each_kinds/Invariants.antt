use Rattle.std.proofs.Common.{◌≡◌, ◌++◌, drop, map}
use Rattle.glyph_kinds.specs.Kinds.{kind_bits}
use Rattle.glyph_kinds.specs.View.{tables_view}
use Rattle.glyph_kinds.proofs.call.each_kinds.Given as goal

abbrev pub invariant-loop-glyph : goal.invariant-loop-glyph
invariant-loop-glyph l = l.found.items ++ map (kind_bits (tables_view l.tables)) (drop l.glyph-index l.glyphs) ≡ map (kind_bits (tables_view l.tables)) l.glyphs
