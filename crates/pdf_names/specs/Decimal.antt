-- A coordinate of 65536ths as a decimal number: the shortest that rounds back to it (Technical Note 5902).
use Rattle.std.specs.Prelude.{◌≡◌, ◌≢◌, ◌<◌, ℕ, zero, suc, ◌+◌, ◌*◌, ◌/◌, ◌%◌, ◌^◌, ◌==◌, ◌&&◌, ◌||◌, nat_lt, Bool}
use Rattle.std.specs.Prelude.{if◌then◌else◌, List, [], ◌∷◌, ◌++◌, codes, decimal, ℤ, unsigned_abs}
use Rattle.pdf_text.specs.Numbers.{sign}

-- a quotient to the nearest whole number, halves to the even one
abbrev pub nearest_even : ℕ → ℕ → ℕ → ℕ
nearest_even q r half = if nat_lt r half || (r == half && q % 2 == 0) then q else q + 1

-- 65536ths with k decimals, counted in units of the last one
unfoldable pub rounded : ℕ → ℕ → ℕ
rounded k n = nearest_even (n * 10 ^ k / 65536) (n * 10 ^ k % 65536) 32768

-- the 65536ths nearest to m units of the last of k decimals, halves up
unfoldable pub back : ℕ → ℕ → ℕ
back k m = (m * 131072 + 10 ^ k) / (2 * 10 ^ k)

abbrev pub rounds_back : ℕ → ℕ → Bool
rounds_back k n = back k (rounded k n) == n

-- the fewest decimals that round back, of which five always do
unfoldable pub decimals : ℕ → ℕ
decimals n =
    if rounds_back 0 n then 0
    else if rounds_back 1 n then 1
    else if rounds_back 2 n then 2
    else if rounds_back 3 n then 3
    else if rounds_back 4 n then 4
    else 5

-- the last n digits of a number
unfoldable pub digits : ℕ → ℕ → List ℕ
digits zero m = []
digits (suc k) m = (48 + m / 10 ^ k % 10) ∷ digits k m

-- a number that is counted in units of its last decimal
abbrev pub fraction : ℕ → ℕ → List ℕ
fraction k m = if k == 0 then [] else codes "." ++ digits k m

unfoldable pub decimal_text : ℕ → ℕ → List ℕ
decimal_text k m = decimal (m / 10 ^ k) ++ fraction k m

abbrev pub size_text : ℕ → List ℕ
size_text n = decimal_text (decimals n) (rounded (decimals n) n)

-- a number of 65536ths in decimal, as `-7.5`
unfoldable pub value_text : ℤ → List ℕ
value_text v = sign v ++ size_text (unsigned_abs v)

-- a number of units that rounds back to 65536ths, as none does with fewer decimals
pub record IsShortest (n k m : ℕ) : Type 0 where
  pub rounds : back k m ≡ n
  pub shortest : (j o : ℕ) → j < k → back j o ≢ n

abbrev pub ShortestIsTaken : Type 0
ShortestIsTaken = (n : ℕ) → IsShortest n (decimals n) (rounded (decimals n) n)
