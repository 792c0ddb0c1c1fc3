-- The texts of glyphs in use, one after the other.
use Rattle.std.proofs.Common.{◌≡◌, ℕ, ◌≤◌, List, ◌++◌, length, take, drop, length-append, arith}
use Rattle.std.proofs.Math.Seq.{take-append_seam, drop-append_seam}

pub fits : (all text following : List ℕ) → all ≡ text ++ following → length text ≤ length all
fits all text following e = rw e (omega (arith, length-append text following))

pub text_here : (all text following : List ℕ) (n : ℕ) → n ≡ length text → all ≡ text ++ following → take n all ≡ text
text_here all text following n is e = rw (is, e) (take-append_seam text following)

pub texts_after : (all text following : List ℕ) (n : ℕ) → n ≡ length text → all ≡ text ++ following → drop n all ≡ following
texts_after all text following n is e = rw (is, e) (drop-append_seam text following)
