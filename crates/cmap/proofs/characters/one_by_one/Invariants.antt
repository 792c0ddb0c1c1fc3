use Rattle.std.proofs.Common.{◌≡◌, ◌++◌, drop, map}
use Rattle.cmap.specs.Subtable.{glyph_of}
use Rattle.cmap.specs.View.{mapping_view}
use Rattle.cmap.proofs.characters.one_by_one.Given as goal

abbrev pub invariant-loop-character : goal.invariant-loop-character
invariant-loop-character l = l.glyphs.items ++ map (glyph_of (mapping_view l.table)) (drop l.character-index l.characters) ≡ map (glyph_of (mapping_view l.table)) l.characters
