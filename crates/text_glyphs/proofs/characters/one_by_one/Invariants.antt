use Rattle.std.proofs.Common.{◌≡◌, ◌++◌, drop, map}
use Rattle.text_glyphs.specs.Formats.{glyph_by_code}
use Rattle.text_glyphs.proofs.characters.one_by_one.Given as goal

abbrev pub invariant-loop-code : goal.invariant-loop-code
invariant-loop-code l = l.glyphs.items ++ map (glyph_by_code l.table) (drop l.code-index l.codes) ≡ map (glyph_by_code l.table) l.codes
