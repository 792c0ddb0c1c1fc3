use Rattle.std.proofs.Common.{◌≡◌, ◌≤◌, drop, max}
use Rattle.pdf_text.specs.View.{lines_view}
use Rattle.pdf_codes.specs.Cmaps.Texts.{limit}
use Rattle.pdf_codes.proofs.cmaps.texts.limit_of.Given as goal

abbrev pub invariant-loop-line : goal.invariant-loop-line
invariant-loop-line l = record {
  so_far : max l.limit (limit (lines_view (drop l.line-index l.lines))) ≡ limit (lines_view l.lines);
  small : l.limit ≤ 65536;
}
