-- What std's `from_str_radix` reads in hexadecimal digits, in the words of `hex_in_32`.
use Rattle.std.proofs.Common.{◌≡◌, ℕ, ◌<◌, ◌^◌, Bool, true, false, List, [], ◌∷◌, length, refl, ap, subst, arith}
use Rattle.std.specs.Prelude.{◌==◌, ◌&&◌, nat_lt, if◌then◌else◌, slice_index, Some, None, Result, Ok, Err}
use Rattle.std.specs.Result.{OkIff, result_ok}
use Rattle.std.specs.Str.Parse.{ParsesUnsigned, AllDigits, digits_value}
use Rattle.std.proofs.lemmas.Str.Parse.{without_leading_plus_none}
use Rattle.subset_args.specs.Listing.Characters.{all_hex, hex_in_32}

hex_digits : (word : List ℕ) → AllDigits 16 word → all_hex word ≡ true
hex_digits [] h = refl
hex_digits (b ∷ word) h = let rest = hex_digits word h.1 in grind arith

digits_of_hex : (word : List ℕ) → all_hex word ≡ true → AllDigits 16 word
digits_of_hex [] h = tt
digits_of_hex (b ∷ word) h = (grind arith, digits_of_hex word (grind arith))

-- a number where the three tests hold, and none where they don't
by_tests : {E : Type 0} (a b c : Bool) (v : ℕ) (r : Result ℕ E) → OkIff r ((a ≡ true) × (b ≡ true) × (c ≡ true)) v → result_ok r ≡ (if a && b && c then Some v else None)
by_tests true true true v (Ok x) (h, e) = ap Some e
by_tests true true true v (Err e) refused = absurd (refused (refl, refl, refl))
by_tests false b c v (Ok x) h = grind arith
by_tests true false c v (Ok x) h = grind arith
by_tests true true false v (Ok x) h = grind arith
by_tests false b c v (Err e) _ = refl
by_tests true false c v (Err e) _ = refl
by_tests true true false v (Err e) _ = refl

-- the tests of a number are the facts of `from_str_radix`
as_tests : {E : Type 0} (word : List ℕ) (r : Result ℕ E) → OkIff r (((0 < length word) × AllDigits 16 word) × (digits_value 16 word < 2 ^ 32)) (digits_value 16 word) → OkIff r ((nat_lt 0 (length word) ≡ true) × (all_hex word ≡ true) × (nat_lt (digits_value 16 word) (2 ^ 32) ≡ true)) (digits_value 16 word)
as_tests word (Ok x) (h, e) = let hex = hex_digits word h.0.1 in ((grind arith, hex, grind arith), e)
as_tests word (Err e) refused = λ h. refused ((grind arith, digits_of_hex word h.1), grind arith)

-- what `ok` of the answer is, for a text that doesn't begin with a plus
pub hex_of_parse : {E : Type 0} (word : List ℕ) (r : Result ℕ E) → ParsesUnsigned 32 16 word r → (slice_index word 0 == 43) ≡ false → result_ok r ≡ hex_in_32 word
hex_of_parse word r h plain =
    let same = without_leading_plus_none word (grind arith) in
    by_tests _ _ _ _ r (as_tests word r (subst (λ (ds : List ℕ). OkIff r (((0 < length ds) × AllDigits 16 ds) × (digits_value 16 ds < 2 ^ 32)) (digits_value 16 ds)) same h))

-- a text that begins with a plus is no number
pub no_hex_of_plus : (word : List ℕ) → (slice_index word 0 == 43) ≡ true → None ≡ hex_in_32 word
no_hex_of_plus [] e = refl
no_hex_of_plus (b ∷ word) e = grind arith
