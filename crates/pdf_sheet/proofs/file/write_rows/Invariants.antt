use Rattle.std.proofs.Common.{◌≡◌, ◌++◌, drop}
use Rattle.pdf_sheet.specs.File.{rows}
use Rattle.pdf_sheet.proofs.file.write_rows.Given as goal

abbrev pub invariant-loop-offset : goal.invariant-loop-offset
invariant-loop-offset l = l.text.items ++ rows (drop l.offset-index l.offsets) ≡ l.fn.text.items ++ rows l.offsets
