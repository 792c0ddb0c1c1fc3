use Rattle.std.proofs.Common.{◌≡◌, ◌++◌, drop, map}
use Rattle.cmap.specs.Subtable.{glyph_of, groups}
use Rattle.cmap.proofs.characters.each_by_halves.Given as goal

abbrev pub invariant-loop-character : goal.invariant-loop-character
invariant-loop-character l = l.glyphs.items ++ map (glyph_of (groups l.table)) (drop l.character-index l.characters) ≡ map (glyph_of (groups l.table)) l.characters
