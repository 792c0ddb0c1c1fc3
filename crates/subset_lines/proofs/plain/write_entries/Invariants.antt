use Rattle.std.proofs.Common.{drop}
use Rattle.subset_lines.specs.Lines.{lines_for}
use Rattle.plain_text.proofs.Written.{Reaches}
use Rattle.subset_lines.proofs.plain.write_entries.Given as goal

abbrev pub invariant-loop-glyph : goal.invariant-loop-glyph
invariant-loop-glyph g l = Reaches (g.L.Write.contents l.fn.lines) (g.L.Write.contents l.lines) (lines_for l.mapper l.characters (drop l.glyph-index l.numbering.glyphs.now)) (lines_for l.mapper l.numbering.characters.now l.numbering.glyphs.now)
