use Rattle.std.proofs.Common.{◌≡◌, ◌++◌, drop}
use Rattle.pdf_text_font.specs.Pairs.{drawings_of}
use Rattle.pdf_text_font.proofs.pairs.drawings_of.Given as goal

abbrev pub invariant-loop-place : goal.invariant-loop-place
invariant-loop-place l = l.drawings.items ++ drawings_of l.count l.owns (drop l.place l.pairs) (drop l.place l.numbers) ≡ drawings_of l.count l.owns l.pairs l.numbers
