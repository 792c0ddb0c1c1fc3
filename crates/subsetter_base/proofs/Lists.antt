-- Lists that are put together.
--   five_written, one_more_written   bytes that were written in turn
--   Contains-later                   a member of the rest of a list
--   rest_of                          `&list[n..]`
--   bytes_eq_is, bytes_eq_self       equal bytes
--   and_parts                        two tests that both hold
use Rattle.std.proofs.Common.{◌≡◌, ℕ, suc, ◌-◌, Bool, true, false, List, ◌∷◌, ◌++◌, length, take, drop, refl, ap, ◌∙◌, append_assoc, arith}
use Rattle.std.specs.Prelude.{Contains, ◌&&◌}
use Rattle.std.specs.Str.{bytes_eq}
use Rattle.std.proofs.lemmas.List.{take_all, length-drop}
use Rattle.std.proofs.lemmas.Slice.Eq.{bytes_eq-Decides}

pub five_written : (w a b c d e w1 w2 w3 w4 w5 : List ℕ) → w1 ≡ w ++ a → w2 ≡ w1 ++ b → w3 ≡ w2 ++ c → w4 ≡ w3 ++ d → w5 ≡ w4 ++ e → w5 ≡ w ++ (a ++ b ++ c ++ d ++ e)
five_written w a b c d e w1 w2 w3 w4 w5 h1 h2 h3 h4 h5 = rw (h5, h4, h3, h2, h1) (simp append_assoc)

-- where the whole is what was written and the rest, it is so after one piece more
pub one_more_written : (w b rest total after : List ℕ) → after ≡ w ++ b → w ++ (b ++ rest) ≡ total → after ++ rest ≡ total
one_more_written w b rest total after is so_far = ap (λ (l : List ℕ). l ++ rest) is ∙ append_assoc w b rest ∙ so_far

pub Contains-later : (x y : ℕ) (xs : List ℕ) → Contains xs y → Contains (x ∷ xs) y
Contains-later x y xs (k, lt, is) = (suc k, omega arith, is)

pub rest_of : (n : ℕ) (bytes : List ℕ) → take (length bytes - n) (drop n bytes) ≡ drop n bytes
rest_of n bytes = take_all (length bytes - n) (drop n bytes) (omega (arith, length-drop n bytes))

pub bytes_eq_is : (a b : List ℕ) → bytes_eq a b ≡ true → a ≡ b
bytes_eq_is a b h = (bytes_eq-Decides a b).0 h

pub bytes_eq_self : (a : List ℕ) → bytes_eq a a ≡ true
bytes_eq_self a = (bytes_eq-Decides a a).1 refl

pub and_parts : (a b : Bool) → (a && b) ≡ true → (a ≡ true) × (b ≡ true)
and_parts true b h = (refl, h)
and_parts false b h = absurd cc
