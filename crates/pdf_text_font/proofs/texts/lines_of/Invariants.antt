use Rattle.std.proofs.Common.{◌≡◌, ◌++◌, drop}
use Rattle.pdf_text.specs.View.{lines_view}
use Rattle.pdf_text_font.specs.Texts.{lines_from, lines_of}
use Rattle.pdf_text_font.proofs.texts.lines_of.Given as goal

abbrev pub invariant-loop-place : goal.invariant-loop-place
invariant-loop-place l = lines_view l.lines.items ++ lines_from l.place (drop l.place l.pairs) ≡ lines_of l.pairs
