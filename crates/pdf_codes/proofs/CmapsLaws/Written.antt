-- Lists that are written one piece after the other.
use Rattle.std.proofs.Common.{◌≡◌, ℕ, ◌+◌, List, ◌++◌, length, ap, ◌∙◌, append_assoc, length-append, arith}

-- where the whole is what was written and the rest, it is so after one piece more
pub one_more : {A : Type 0} (w b rest total after : List A) → after ≡ w ++ b → w ++ (b ++ rest) ≡ total → after ++ rest ≡ total
one_more {A} w b rest total after is so_far = ap (λ (l : List A). l ++ rest) is ∙ append_assoc w b rest ∙ so_far

-- where the length of the whole is a count and that of the rest, it is so after one piece more
pub count_more : (n m total : ℕ) (piece rest : List ℕ) → n + length (piece ++ rest) ≡ total → m ≡ n + length piece → m + length rest ≡ total
count_more n m total piece rest so_far is = omega (arith, so_far, is, length-append piece rest)
