-- Exact values: whole numbers of 32 bits, and a thousand times a decimal.
use Rattle.std.proofs.Common.{◌≡◌, ℕ, ◌<◌, ◌≤◌, Bool, true, false, List, length, Some, None, refl, arith, sym}
use Rattle.std.specs.Prelude.{ℤ, pos, negsuc, ◌+ℤ◌, ◌≤ℤ◌, ◌<ℤ◌}
use Rattle.std.proofs.lemmas.Int.{ints}
use Rattle.std.proofs.lemmas.Bool.{lt-ltb, le-ltb, ne_eqb}
use Rattle.subsetter_cffdata.specs.Reals.Decimals.{Decimal, is_zero, stripped, number, signed}
use Rattle.subsetter_cffdata.specs.Numerals.Numbers.{in_i32}
use Rattle.subsetter_cffdata.specs.Numerals.Values.{thousandfold, held}
use Rattle.subsetter_cffdata.proofs.RealsLaws.PlainDigits.{size_of_signed, positive_number}

abbrev decimal_by : ℤ → ℤ → Decimal
decimal_by m p = record { mantissa = m; power = p }

in_i32_is : (z : ℤ) → negsuc 2147483647 ≤ℤ z → z ≤ℤ pos 2147483647 → in_i32 z ≡ Some z
unfolding in_i32
in_i32_is (pos n) low high = rw (lt-ltb n 2147483648 (omega (arith, ints, high))) refl
in_i32_is (negsuc n) low high = rw (lt-ltb n 2147483648 (omega (arith, ints, low))) refl

in_i32_not : (z : ℤ) → pos 2147483647 <ℤ z → in_i32 z ≡ None
unfolding in_i32
in_i32_not (pos n) past = rw (le-ltb n 2147483648 (omega (arith, ints, past))) refl
in_i32_not (negsuc n) past = absurd (omega (arith, ints, past))

pub zero_held : (d : Decimal) → is_zero d.mantissa ≡ true → negsuc 2147483647 ≤ℤ d.power → d.power ≤ℤ pos 2147483647 → Some d ≡ held (thousandfold d)
zero_held d none low high = rw (none, in_i32_is d.power low high) refl

pub thousand_held : (d : Decimal) (power : ℤ) → is_zero d.mantissa ≡ false → power ≡ d.power +ℤ pos 3 → negsuc 2147483647 ≤ℤ power → power ≤ℤ pos 2147483647
    → Some (decimal_by d.mantissa power) ≡ held (thousandfold d)
thousand_held d power some same low high = rw (some, sym same, in_i32_is power low high) refl

pub thousand_past : (d : Decimal) → is_zero d.mantissa ≡ false → pos 2147483647 <ℤ (d.power +ℤ pos 3) → None ≡ held (thousandfold d)
thousand_past d some past = rw (some, in_i32_not (d.power +ℤ pos 3) past) refl

pub not_zero : (negative : Bool) (ds : List ℕ) → stripped ds ≡ ds → 0 < length ds → is_zero (signed negative (number ds)) ≡ false
not_zero negative ds front some =
    let positive = positive_number ds front some in
    rw (size_of_signed negative (number ds)) (ne_eqb (number ds) 0 (λ z. omega (arith, positive, z)))
