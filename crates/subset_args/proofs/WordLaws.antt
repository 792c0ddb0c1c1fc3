-- What std's `parse` reads, in the words of `number_in_bits`.
use Rattle.std.proofs.Common.{◌≡◌, ℕ, ◌<◌, ◌^◌, Bool, true, false, List, [], ◌∷◌, map, length, refl, ap, arith}
use Rattle.std.specs.Prelude.{◌==◌, ◌&&◌, nat_lt, if◌then◌else◌, slice_index, Some, None, Result, Ok, Err}
use Rattle.std.specs.Result.{OkIff, result_ok}
use Rattle.std.specs.Str.{all_ascii_digits}
use Rattle.std.specs.Str.Parse.{ParsesUnsigned, digits_value}
use Rattle.std.proofs.lemmas.Str.Parse.{IsNumeralModel, numerals_by_value, tells_all_ascii_digits, parse_plain}
use Rattle.std.specs.Borrow.{Bor}
use Rattle.subset_args.specs.Words.{number_in_bits}

own : IsNumeralModel (λ ds. all_ascii_digits ds ≡ true) (digits_value 10)
own = numerals_by_value _ tells_all_ascii_digits

-- a number where the three tests hold, and none where they don't
by_tests : {E : Type 0} (a b c : Bool) (v : ℕ) (r : Result ℕ E) → OkIff r ((b ≡ true) × (a ≡ true) × (c ≡ true)) v → result_ok r ≡ (if a && b && c then Some v else None)
by_tests true true true v (Ok x) (h, e) = ap Some e
by_tests true true true v (Err e) refused = absurd (refused (refl, refl, refl))
by_tests false b c v (Ok x) h = grind arith
by_tests true false c v (Ok x) h = grind arith
by_tests true true false v (Ok x) h = grind arith
by_tests false b c v (Err e) _ = refl
by_tests true false c v (Err e) _ = refl
by_tests true true false v (Err e) _ = refl

-- the tests of a number are the facts of `parse`
as_tests : {E : Type 0} (bits : ℕ) (text : List ℕ) (r : Result ℕ E) → OkIff r ((all_ascii_digits text ≡ true) × (0 < length text) × (digits_value 10 text < 2 ^ bits)) (digits_value 10 text) → OkIff r ((all_ascii_digits text ≡ true) × (nat_lt 0 (length text) ≡ true) × (nat_lt (digits_value 10 text) (2 ^ bits) ≡ true)) (digits_value 10 text)
as_tests bits text (Ok x) h = grind arith
as_tests bits text (Err e) refused = λ h. refused (grind arith)

-- what `ok` of the answer of `parse` is, for a text that doesn't begin with a plus
pub number_of_parse : {E : Type 0} (bits : ℕ) (text : List ℕ) (r : Result ℕ E) → ParsesUnsigned bits 10 text r → (slice_index text 0 == 43) ≡ false → result_ok r ≡ number_in_bits bits text
number_of_parse bits text r h plain = by_tests _ _ _ _ r (as_tests bits text r (parse_plain own bits text r h (grind arith)))

-- a text that begins with a plus is no number
pub no_number_of_plus : (bits : ℕ) (text : List ℕ) → (slice_index text 0 == 43) ≡ true → None ≡ number_in_bits bits text
no_number_of_plus bits [] e = refl
no_number_of_plus bits (x ∷ xs) e = grind arith

-- what a list of texts points to
abbrev pub texts : List (Bor (List ℕ)) → List (List ℕ)
texts bs = map (λ (b : Bor (List ℕ)). b.now) bs
