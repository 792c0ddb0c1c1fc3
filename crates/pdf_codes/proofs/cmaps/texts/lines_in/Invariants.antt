use Rattle.std.proofs.Common.{◌≡◌, ◌++◌, drop}
use Rattle.std.specs.Prelude.{All}
use Rattle.pdf_text.specs.Cmaps.Cmap.{IsLine}
use Rattle.pdf_text.specs.View.{lines_view}
use Rattle.pdf_codes.specs.Cmaps.Texts.{table_lines}
use Rattle.subsetter_base.specs.Texts.{views}
use Rattle.pdf_codes.proofs.cmaps.texts.lines_in.Given as goal

abbrev pub invariant-loop-place : goal.invariant-loop-place
invariant-loop-place l = record {
  so_far : lines_view l.lines.items ++ table_lines l.place (views (drop l.place l.texts)) ≡ table_lines 0 (views l.texts);
  are_lines : All IsLine (lines_view l.lines.items);
}
