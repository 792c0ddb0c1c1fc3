use Rattle.std.proofs.Common.{◌≡◌, ◌++◌, drop}
use Rattle.pdf_text_font.specs.Own.{parts_by}
use Rattle.pdf_text_font.proofs.own.parts_by.Given as goal

abbrev pub invariant-loop-place : goal.invariant-loop-place
invariant-loop-place l = l.numbered.items ++ parts_by (drop l.place l.parts) (drop l.place l.numbers) ≡ parts_by l.parts l.numbers
