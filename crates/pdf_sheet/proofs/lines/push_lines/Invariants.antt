use Rattle.std.proofs.Common.{◌≡◌, ◌+◌, ◌*◌, ◌++◌, drop}
use Rattle.pdf_sheet.specs.Lines.{line_pages}
use Rattle.pdf_sheet.specs.View.{texts_view}
use Rattle.pdf_sheet.proofs.lines.push_lines.Given as goal

abbrev pub invariant-loop-line : goal.invariant-loop-line
invariant-loop-line l = record {
  number : l.number ≡ 3 + 2 * l.line-index;
  values : texts_view l.values.items ++ line_pages l.vertical l.font l.number (drop l.line-index l.lines) ≡ texts_view l.fn.values.items ++ line_pages l.vertical l.font 3 l.lines;
}
