use Rattle.std.proofs.Common.{◌≡◌, ◌≤◌, ℕ, length, drop, get_or, []}
use Rattle.pdf_text.specs.View.{lines_view}
use Rattle.pdf_codes.specs.Cmaps.Texts.{first_text, limit}
use Rattle.subsetter_base.specs.Texts.{or_else, views}
use Rattle.pdf_codes.proofs.cmaps.texts.first_texts.Given as goal

abbrev pub invariant-loop-line : goal.invariant-loop-line
invariant-loop-line l = record {
  as_long : length l.texts.items ≡ l.bound;
  below : limit (lines_view (drop l.line-index l.lines)) ≤ l.bound;
  so_far : (k : ℕ) → or_else (get_or (views l.texts.items) k []) (first_text (lines_view (drop l.line-index l.lines)) k) ≡ first_text (lines_view l.lines) k;
}
