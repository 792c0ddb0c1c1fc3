use Rattle.std.proofs.Common.{◌≡◌, ◌++◌, map, drop}
use Rattle.glyph_names.specs.Names.{glyph_name}
use Rattle.glyph_names.proofs.names.glyph_names.Given as goal

abbrev pub invariant-loop-glyph : goal.invariant-loop-glyph
invariant-loop-glyph l = map (λ name. name.now) l.names.items ++ map (glyph_name l.post l.cff) (drop l.glyph-index l.glyphs) ≡ map (glyph_name l.post l.cff) l.glyphs
