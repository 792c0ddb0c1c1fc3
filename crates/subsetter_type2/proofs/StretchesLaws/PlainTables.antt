-- A table of bytes that agrees with its definition entry by entry.
use Rattle.std.proofs.Common.{◌≡◌, ℕ, zero, suc, ◌+◌, ◌<◌, Bool, true, false, List, [], ◌∷◌, ◌++◌, length, get_or, refl, ap, sym, ◌∙◌, arith}
use Rattle.std.specs.Prelude.{replicate}
use Rattle.subsetter_type2.specs.Stretches.Plain.{is_plain}

abbrev pub same : Bool → Bool → Bool
same true b = b
same false true = false
same false false = true

abbrev pub both : Bool → Bool → Bool
both true b = b
both false b = false

-- the entries from this number on
unfoldable pub agrees : ℕ → List Bool → Bool
agrees n [] = true
agrees n (x ∷ xs) = both (same x (is_plain n)) (agrees (suc n) xs)

same_is : (x y : Bool) → same x y ≡ true → x ≡ y
same_is true y e = sym e
same_is false true e = e
same_is false false e = refl

both_left : (x y : Bool) → both x y ≡ true → x ≡ true
both_left true y e = refl
both_left false y e = e

both_right : (x y : Bool) → both x y ≡ true → y ≡ true
both_right true y e = e
both_right false y e = let p : false ≡ true = e in absurd (cc)

pub read_table : (n : ℕ) (l : List Bool) (i : ℕ) (d : Bool) → agrees n l ≡ true → i < length l → get_or l i d ≡ is_plain (n + i)
unfolding agrees
read_table n [] i d e h = absurd (omega arith)
read_table n (x ∷ xs) zero d e h =
    let z : n + 0 ≡ n = omega arith in
    same_is x (is_plain n) (both_left _ _ e) ∙ ap is_plain (sym z)
read_table n (x ∷ xs) (suc i) d e h =
    let z : suc n + i ≡ n + suc i = omega arith in
    read_table (suc n) xs i d (both_right (same x (is_plain n)) _ e) (omega arith) ∙ ap is_plain z

read_entry : (l : List Bool) (i n : ℕ) (d x : Bool) → x ≡ get_or l i d → agrees 0 l ≡ true → length l ≡ n → i < n → x ≡ is_plain i
read_entry l i n d x r e m h =
    let z : 0 + i ≡ i = omega arith in
    r ∙ read_table 0 l i d e (omega arith) ∙ ap is_plain z

-- the operators, then numbers of one and two bytes, and 255
unfoldable pub plain_table : List Bool
plain_table = (false ∷ false ∷ false ∷ false ∷ true ∷ true ∷ true ∷ true ∷ true ∷ false ∷ false ∷ false ∷ false ∷ false ∷ false ∷ false ∷ false ∷ false ∷ false ∷ false ∷ false ∷ true ∷ true ∷ false ∷ true ∷ true ∷ true ∷ true ∷ false ∷ false ∷ true ∷ true ∷ []) ++ replicate 223 true ++ false ∷ []

plain_agrees : agrees 0 plain_table ≡ true
unfolding agrees is_plain plain_table
plain_agrees = refl

plain_length : length plain_table ≡ 256
unfolding plain_table
plain_length = refl

pub read_plain : (i : ℕ) → i < 256 → get_or plain_table i false ≡ is_plain i
read_plain i h = read_entry plain_table i 256 false _ refl plain_agrees plain_length h
