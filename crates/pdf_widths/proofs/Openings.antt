-- The first operator of a charstring, found number by number.
use Rattle.std.proofs.Common.{◌≡◌, ℕ, suc, ◌+◌, ◌-◌, ◌<◌, ◌≤◌, List, Some, None, ap, ◌∙◌, refl, arith}
use Rattle.subsetter_cffdata.specs.declared.numerals.charstring_number.CharStringNumber.{CharStringNumber}
use Rattle.subsetter_cffdata.specs.Numerals.CharStringNumber.{number_at}
use Rattle.pdf_widths.specs.Opening.{first_operator, operator_at}

-- one number further
pub past_number : (n : ℕ) (bytes rest : List ℕ) (x : CharStringNumber) → n < 49 → number_at bytes ≡ Some (x, rest) → first_operator (49 - n) n bytes ≡ first_operator (49 - (n + 1)) (n + 1) rest
unfolding first_operator
past_number n bytes rest x lt e =
    let one : 49 - n ≡ suc (49 - (n + 1)) = omega arith in
    ap (λ (k : ℕ). first_operator k n bytes) one ∙ rw e refl

-- no number is there
pub at_operator : (n : ℕ) (bytes : List ℕ) → n < 49 → number_at bytes ≡ None → first_operator (49 - n) n bytes ≡ operator_at n bytes
unfolding first_operator
at_operator n bytes lt e =
    let one : 49 - n ≡ suc (49 - (n + 1)) = omega arith in
    ap (λ (k : ℕ). first_operator k n bytes) one ∙ rw e refl

-- 49 numbers
pub too_many : (n : ℕ) (bytes : List ℕ) → 49 ≤ n → first_operator (49 - n) n bytes ≡ None
unfolding first_operator
too_many n bytes most = let none : 49 - n ≡ 0 = omega arith in ap (λ (k : ℕ). first_operator k n bytes) none
