use Rattle.std.proofs.Common.{◌≡◌, ◌++◌, drop}
use Rattle.pdf_text.specs.Parts.{parts_from, parts_view}
use Rattle.pdf_text.proofs.parts.write_each.Given as goal

abbrev pub invariant-loop-place : goal.invariant-loop-place
invariant-loop-place l = parts_view l.parts.items ++ parts_from (drop l.place l.objects) (drop l.place l.numbers) l.values l.references ≡ parts_from l.objects l.numbers l.values l.references
