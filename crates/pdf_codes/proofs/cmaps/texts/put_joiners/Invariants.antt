use Rattle.std.proofs.Common.{◌≡◌, ◌≤◌, ◌<◌, ℕ, length, drop, get_or, []}
use Rattle.pdf_text.specs.View.{lines_view}
use Rattle.pdf_codes.specs.Cmaps.Texts.{joiner_in, limit, said_by}
use Rattle.subsetter_base.specs.Texts.{or_else, views}
use Rattle.pdf_codes.proofs.cmaps.texts.put_joiners.Given as goal

abbrev pub invariant-loop-line : goal.invariant-loop-line
invariant-loop-line l = record {
  as_long : length l.texts.items ≡ limit (lines_view l.lines);
  below : limit (lines_view (drop l.line-index l.lines)) ≤ length l.texts.items;
  so_far : (k : ℕ) → k < length l.texts.items → or_else (get_or (views l.texts.items) k []) (joiner_in (lines_view (drop l.line-index l.lines)) k) ≡ said_by (lines_view l.lines) k;
}
