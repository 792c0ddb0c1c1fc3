-- Values that a look-up gives from a number on.
--   from_more                    one more
--   pushed                       one more, as it is pushed
--   from_at                      the one at a place
use Rattle.std.proofs.Common.{◌≡◌, ℕ, zero, suc, ◌+◌, ◌<◌, List, [], ◌∷◌, ◌++◌, length, get_or, Option, Some, subst, sym, ap, ◌∙◌, arith}
use Rattle.own_glyphs.specs.Source.{AreFrom}

pub from_more : {A : Type 0} (find : ℕ → Option A) (at n : ℕ) (xs : List A) (x : A) → AreFrom find at xs → n ≡ at + length xs → find n ≡ Some x → AreFrom find at (xs ++ x ∷ [])
from_more find at n [] x all e h = let same : n ≡ at = omega arith in (subst (λ k. find k ≡ Some x) same h, tt)
from_more find at n (y ∷ ys) x all e h = (all.0, from_more find (at + 1) n ys x all.1 (omega arith) h)

pub from_at : {A : Type 0} (find : ℕ → Option A) (at i : ℕ) (xs : List A) (d : A) → AreFrom find at xs → i < length xs → find (at + i) ≡ Some (get_or xs i d)
from_at find at i [] d all lt = absurd (omega arith)
from_at find at zero (y ∷ ys) d all lt = let same : at + zero ≡ at = omega arith in ap find same ∙ all.0
from_at find at (suc i) (y ∷ ys) d all lt = let same : at + suc i ≡ at + 1 + i = omega arith in ap find same ∙ from_at find (at + 1) i ys d all.1 (omega arith)

-- a value that was put after others
pub pushed : {A : Type 0} (find : ℕ → Option A) (n : ℕ) (xs ys : List A) (x : A) → AreFrom find 0 xs → length xs ≡ n → find n ≡ Some x → ys ≡ xs ++ x ∷ [] → AreFrom find 0 ys
pushed find n xs ys x all count h is = subst (AreFrom find 0) (sym is) (from_more find 0 n xs x all (omega (arith, count)) h)
