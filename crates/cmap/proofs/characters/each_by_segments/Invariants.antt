use Rattle.std.proofs.Common.{◌≡◌, ◌++◌, drop, map}
use Rattle.cmap.specs.Subtable.{glyph_of, segments}
use Rattle.cmap.proofs.characters.each_by_segments.Given as goal

abbrev pub invariant-loop-character : goal.invariant-loop-character
invariant-loop-character l = l.glyphs.items ++ map (glyph_of (segments l.table)) (drop l.character-index l.characters) ≡ map (glyph_of (segments l.table)) l.characters
