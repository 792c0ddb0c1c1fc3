use Rattle.std.proofs.Common.{◌≡◌, ◌≤◌, ℕ, length, drop, get_or, None}
use Rattle.std.specs.Option.{option_or}
use Rattle.pdf_text.specs.View.{pairs_view}
use Rattle.pdf_codes.specs.Cmaps.Leading.{cid_of, limit}
use Rattle.pdf_codes.proofs.cmaps.leading.first_cids.Given as goal

abbrev pub invariant-loop-pair : goal.invariant-loop-pair
invariant-loop-pair l = record {
  as_long : length l.cids.items ≡ l.bound;
  below : limit (pairs_view (drop l.pair-index l.pairs)) ≤ l.bound;
  so_far : (k : ℕ) → option_or (get_or l.cids.items k None) (cid_of (pairs_view (drop l.pair-index l.pairs)) k) ≡ cid_of (pairs_view l.pairs) k;
}
