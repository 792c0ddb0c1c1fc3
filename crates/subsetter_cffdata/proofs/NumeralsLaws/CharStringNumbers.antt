-- The numbers of a charstring: what is written is read again, and what is read can be written.
use Rattle.std.proofs.Common.{◌≡◌, ℕ, ◌+◌, ◌*◌, ◌/◌, ◌%◌, ◌<◌, Bool, true, false, List, [], ◌∷◌, ◌++◌, Option, Some, None, refl, ap, ◌∙◌, arith, pos, negsuc, FitsSigned, to_z, of_z, w16, w32, nat_lt, nat_le, if◌then◌else◌, ◌==◌, ◌-ℤ◌, ◌-◌, ◌≤◌, length, drop, subst, length-append}
use Rattle.std.proofs.lemmas.Int.{ints, to_z-of_z}
use Rattle.std.proofs.lemmas.List.{drop_at}
use Rattle.std.proofs.lemmas.Bool.Decides.{nat_tests}
use Rattle.subsetter_cffdata.specs.declared.numerals.charstring_number.CharStringNumber.{CharStringNumber}
use Rattle.subsetter_cffdata.specs.declared.numerals.charstring_number.CharStringNumber.TheVariants.{Integer, Fixed}
use Rattle.subsetter_cffdata.specs.Numerals.CharStringNumber.{number_at, written, written_short, short_number, fixed_number, middle_number, NumberFits, FitsIn}

two_bytes : (n : ℕ) → n / 256 * 256 + n % 256 ≡ n
two_bytes n = omega arith

four_bytes : (n : ℕ) → n / 16777216 * 16777216 + n / 65536 % 256 * 65536 + n / 256 % 256 * 256 + n % 256 ≡ n
four_bytes n = omega arith

pub short_back : (bits : ℕ) (rest : List ℕ) → number_at (written_short bits ++ rest) ≡ Some (Integer (to_z w16 bits), rest)
unfolding number_at
short_back bits rest = ap (λ n. Some (Integer (to_z w16 n), rest)) (two_bytes bits)

pub read_back : (number : CharStringNumber) (rest : List ℕ) → NumberFits number → number_at (written number ++ rest) ≡ Some (number, rest)
unfolding number_at written
read_back (Integer (pos n)) rest h = grind (arith, nat_tests, ints)
read_back (Integer (negsuc n)) rest h = grind (arith, nat_tests, ints)
read_back (Fixed k) rest h = ap (λ n. Some (Fixed (to_z w32 n), rest)) (four_bytes (of_z w32 k)) ∙ ap (λ z. Some (Fixed z, rest)) (to_z-of_z w32 k h)

by_test : (b : Bool) (x y : Option (CharStringNumber × List ℕ)) → (b ≡ true → FitsIn x) → (b ≡ false → FitsIn y) → FitsIn (if b then x else y)
by_test true x y f g = f refl
by_test false x y f g = g refl

word_fits : (n : ℕ) → FitsSigned w16 (to_z w16 n)
word_fits n = grind (arith, ints)

long_fits : (n : ℕ) → FitsSigned w32 (to_z w32 n)
long_fits n = grind (arith, ints)

short_fits : (bytes : List ℕ) → FitsIn (short_number bytes)
short_fits [] = tt
short_fits (a ∷ []) = tt
short_fits (a ∷ b ∷ rest) = word_fits (a * 256 + b)

fixed_fits : (bytes : List ℕ) → FitsIn (fixed_number bytes)
fixed_fits [] = tt
fixed_fits (a ∷ []) = tt
fixed_fits (a ∷ b ∷ []) = tt
fixed_fits (a ∷ b ∷ c ∷ []) = tt
fixed_fits (a ∷ b ∷ c ∷ d ∷ rest) = long_fits (a * 16777216 + b * 65536 + c * 256 + d)

small_fits : (first : ℕ) → first < 247 → FitsSigned w16 (pos first -ℤ pos 139)
small_fits first h = grind (arith, ints)

pub above_fits : (first second : ℕ) → second < 256 → first < 251 → FitsSigned w16 (pos ((first - 247) * 256 + second + 108))
above_fits first second h l = grind (arith, ints)

pub below_fits : (first second : ℕ) → second < 256 → first < 255 → FitsSigned w16 (pos 0 -ℤ pos ((first - 251) * 256 + second + 108))
below_fits first second h l = grind (arith, ints)

middle_fits : (first : ℕ) (bytes : List ℕ) → first < 255 → FitsIn (middle_number first bytes)
middle_fits first [] l = tt
middle_fits first (second ∷ rest) l =
    by_test (nat_le 256 second) _ _ (λ _. tt)
    (λ h. let byte : second < 256 = grind (arith, nat_tests) in
    by_test (nat_lt first 251) _ _
    (λ g. let low : first < 251 = grind (arith, nat_tests) in above_fits first second byte low)
    (λ g. below_fits first second byte l))

-- every number that is read fits
pub number_fits : (bytes : List ℕ) → FitsIn (number_at bytes)
unfolding number_at
number_fits [] = tt
number_fits (first ∷ rest) =
    by_test (first == 28) _ _ (λ _. short_fits rest)
    (λ _. by_test (nat_lt first 32) _ _ (λ _. tt)
    (λ _. by_test (nat_lt first 247) _ _ (λ h. let l : first < 247 = grind (arith, nat_tests) in small_fits first l)
    (λ _. by_test (nat_lt first 255) _ _ (λ h. let l : first < 255 = grind (arith, nat_tests) in middle_fits first rest l)
    (λ _. fixed_fits rest))))

-- ---- what follows a number is the end of the bytes
abbrev Following : List ℕ → Option (CharStringNumber × List ℕ) → Type 0
Following bytes None = Unit {0}
Following bytes (Some x) = (front : List ℕ) × (bytes ≡ front ++ x.1)

either : (bytes : List ℕ) (b : Bool) (x y : Option (CharStringNumber × List ℕ)) → Following bytes x → Following bytes y → Following bytes (if b then x else y)
either bytes true x y h k = h
either bytes false x y h k = k

short_after : (first : ℕ) (bytes : List ℕ) → Following (first ∷ bytes) (short_number bytes)
short_after first [] = tt
short_after first (a ∷ []) = tt
short_after first (a ∷ b ∷ rest) = (first ∷ a ∷ b ∷ [], refl)

fixed_after : (first : ℕ) (bytes : List ℕ) → Following (first ∷ bytes) (fixed_number bytes)
fixed_after first [] = tt
fixed_after first (a ∷ []) = tt
fixed_after first (a ∷ b ∷ []) = tt
fixed_after first (a ∷ b ∷ c ∷ []) = tt
fixed_after first (a ∷ b ∷ c ∷ d ∷ rest) = (first ∷ a ∷ b ∷ c ∷ d ∷ [], refl)

middle_after : (first : ℕ) (bytes : List ℕ) → Following (first ∷ bytes) (middle_number first bytes)
middle_after first [] = tt
middle_after first (second ∷ rest) =
    either _ (nat_le 256 second) _ _ tt (either _ (nat_lt first 251) _ _ (first ∷ second ∷ [], refl) (first ∷ second ∷ [], refl))

number_after : (bytes : List ℕ) → Following bytes (number_at bytes)
unfolding number_at
number_after [] = tt
number_after (first ∷ rest) =
    either _ (first == 28) _ _ (short_after first rest) (either _ (nat_lt first 32) _ _ tt (either _ (nat_lt first 247) _ _ (first ∷ [], refl)
    (either _ (nat_lt first 255) _ _ (middle_after first rest) (fixed_after first rest))))

end_of : (bytes front rest : List ℕ) → bytes ≡ front ++ rest → (length rest ≤ length bytes) × (drop (length bytes - length rest) bytes ≡ rest)
end_of bytes front rest e =
    let len = length-append front rest in
    rw e (omega (arith, len), drop_at front rest (length (front ++ rest) - length rest) (omega (arith, len)))

follows : (bytes rest : List ℕ) (x : CharStringNumber) → number_at bytes ≡ Some (x, rest) → (length rest ≤ length bytes) × (drop (length bytes - length rest) bytes ≡ rest)
follows bytes rest x e = let following : Following bytes (Some (x, rest)) = subst (Following bytes) e (number_after bytes) in end_of bytes following.0 rest following.1

pub no_longer : (bytes rest : List ℕ) (x : CharStringNumber) → number_at bytes ≡ Some (x, rest) → length rest ≤ length bytes
no_longer bytes rest x e = (follows bytes rest x e).0

pub is_end : (bytes rest : List ℕ) (x : CharStringNumber) → number_at bytes ≡ Some (x, rest) → drop (length bytes - length rest) bytes ≡ rest
is_end bytes rest x e = (follows bytes rest x e).1

pub ruleset what_follows = (no_longer, is_end)
