use Rattle.std.proofs.Common.{◌≡◌, ◌++◌, drop}
use Rattle.pdf_text_font.specs.GlyphMap.{map_bytes}
use Rattle.pdf_text_font.proofs.glyph_map.map_to_glyphs.Given as goal

abbrev pub invariant-loop-drawing : goal.invariant-loop-drawing
invariant-loop-drawing l = l.map.items ++ map_bytes l.first l.owns (drop l.drawing-index l.drawings) ≡ map_bytes l.first l.owns l.drawings
