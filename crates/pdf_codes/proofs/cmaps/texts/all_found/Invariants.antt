use Rattle.std.proofs.Common.{◌≡◌, ◌≤◌, ◌++◌, drop, length, map}
use Rattle.pdf_text.specs.View.{lines_view}
use Rattle.pdf_codes.specs.Cmaps.Texts.{is_line_found, limit}
use Rattle.pdf_codes.proofs.cmaps.texts.all_found.Given as goal

abbrev pub invariant-loop-line : goal.invariant-loop-line
invariant-loop-line l = record {
  below : limit (lines_view (drop l.line-index l.lines)) ≤ length l.texts;
  so_far : l.said.items ++ map (is_line_found (lines_view l.lines)) (lines_view (drop l.line-index l.lines)) ≡ map (is_line_found (lines_view l.lines)) (lines_view l.lines);
}
