-- Digits and zeros as a whole number, up to a limit.
use Rattle.std.proofs.Common.{◌≡◌, ℕ, zero, suc, ◌+◌, ◌-◌, ◌*◌, ◌^◌, ◌<◌, ◌≤◌, Bool, true, false, List, length, drop, get_or, Some, None, refl, ap, arith, ◌∙◌, sym, inl, inr}
use Rattle.std.specs.Int.Digits.{number_from_digits_after}
use Rattle.std.proofs.Math.Nat.{pow-suc, one-le-pow, mul-le-mul_left}
use Rattle.std.proofs.lemmas.Bool.{cases_lt, lt-leb, le-leb, le-ltb}
use Rattle.std.proofs.lemmas.Option.{none-some, same_Some}
use Rattle.std.proofs.lemmas.List.{drop_more}
use Rattle.std.proofs.lemmas.Int.Digits.{number_after_ge}
use Rattle.subsetter_cffdata.specs.Reals.Decimals.{number, signed}
use Rattle.subsetter_cffdata.specs.Numerals.Limited.{limited}
use Rattle.subsetter_cffdata.specs.Numerals.Numbers.{in_i32}

pub past : (n : ℕ) → 2147483648 < n → limited n ≡ None
unfolding limited
past n big = rw (lt-leb n 2147483648 big) refl

pub past_digits : (ds : List ℕ) (i n : ℕ) → i < length ds → number_from_digits_after 10 n (drop i ds) ≡ number ds → 2147483648 < n * 10 + get_or ds i 0 → limited (number ds) ≡ None
past_digits ds i n lt rest big =
    let e : number_from_digits_after 10 (n * 10 + get_or ds i 0) (drop (i + 1) ds) ≡ number ds = sym (ap (number_from_digits_after 10 n) (drop_more ds i 0 lt)) ∙ rest in
    let more = number_after_ge 10 (n * 10 + get_or ds i 0) (drop (i + 1) ds) (omega arith) in
    past (number ds) (omega (arith, more, e))

-- one zero more
pub zero_more : (size i count : ℕ) → i < count → size * 10 * 10 ^ (count - (i + 1)) ≡ size * 10 ^ (count - i)
zero_more size i count lt =
    let step : count - i ≡ suc (count - (i + 1)) = omega arith in
    rw (step, pow-suc 10 (count - (i + 1))) (grind arith)

pub not_less : (n k : ℕ) → n ≤ n * 10 ^ k
not_less n k =
    let some : 0 < 10 = omega arith in
    let more = mul-le-mul_left n (one-le-pow k 10 some) in
    omega (arith, more)

pub past_zeros : (n count size i : ℕ) → i < count → size * 10 ^ (count - i) ≡ n * 10 ^ count → 2147483648 < size * 10 → limited (n * 10 ^ count) ≡ None
past_zeros n count size i lt rest big =
    let step = zero_more size i count lt in
    let more = not_less (size * 10) (count - (i + 1)) in
    past (n * 10 ^ count) (omega (arith, step, rest, more))

-- ---- with its sign
too_large : (negative : Bool) (n : ℕ) → 2147483648 < n → in_i32 (signed negative n) ≡ None
unfolding in_i32
too_large true zero big = absurd (omega arith)
too_large true (suc n) big = rw (le-ltb n 2147483648 (omega arith)) refl
too_large false n big = rw (le-ltb n 2147483648 (omega arith)) refl

limited_none : (n : ℕ) → limited n ≡ None → 2147483648 < n
unfolding limited
limited_none n none =
    elim (cases_lt 2147483648 n) [
      | inl big ↦ big
      | inr small ↦ absurd (none-some n (sym (rw (le-leb n 2147483648 small) at none)))
    ]

limited_some : (n m : ℕ) → limited n ≡ Some m → m ≡ n
unfolding limited
limited_some n m some =
    elim (cases_lt 2147483648 n) [
      | inl big ↦ absurd (none-some m (rw (lt-leb n 2147483648 big) at some))
      | inr small ↦ sym (same_Some _ _ (rw (le-leb n 2147483648 small) at some))
    ]

pub no_digits : (negative : Bool) (n k : ℕ) → limited n ≡ None → in_i32 (signed negative (n * 10 ^ k)) ≡ None
no_digits negative n k none = too_large negative (n * 10 ^ k) (omega (arith, limited_none n none, not_less n k))

pub no_zeros : (negative : Bool) (n m k : ℕ) → limited n ≡ Some m → limited (m * 10 ^ k) ≡ None → in_i32 (signed negative (n * 10 ^ k)) ≡ None
no_zeros negative n m k some none =
    let big = limited_none (m * 10 ^ k) none in
    too_large negative (n * 10 ^ k) (rw (← limited_some n m some) big)

pub size_is : (n m k size : ℕ) → limited n ≡ Some m → limited (m * 10 ^ k) ≡ Some size → size ≡ n * 10 ^ k
size_is n m k size some more = limited_some (m * 10 ^ k) size more ∙ ap (λ (x : ℕ). x * 10 ^ k) (limited_some n m some)
