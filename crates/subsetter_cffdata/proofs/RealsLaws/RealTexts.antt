-- The text of a real in memory.
use Rattle.std.proofs.Common.{◌≡◌, ℕ, zero, suc, ◌+◌, ◌-◌, ◌*◌, ◌%◌, ◌^◌, ◌<◌, ◌≤◌, Bool, true, false, cond, ◌&&◌, eqb, List, [], ◌∷◌, ◌++◌, take, length, get_or, Some, None, refl, ap, arith, inl, inr, ◌∙◌, sym}
use Rattle.std.specs.Prelude.{ℤ, pos, neg_ℤ, unsigned_abs, IsTrue, Result, Ok, Err, OnOk}
use Rattle.std.specs.Int.{is_negative}
use Rattle.std.specs.List.{AllByRecursion}
use Rattle.std.proofs.Math.Nat.{pow-le-pow_right}
use Rattle.std.proofs.lemmas.Bool.{cases_eq, cases_lt, ne_eqb, lt-ltb, le-ltb, lt-leb, le-leb}
use Rattle.std.proofs.lemmas.List.{nil_from_length, length-take, take_all}
use Rattle.std.proofs.lemmas.Option.{none-some, same_Some}
use Rattle.std.proofs.lemmas.Int.Digits.{number_lt, number_more}
use Rattle.subsetter_cffdata.specs.Reals.Decimals.{HasText, IsPlain, is_normal, trimmed, number, signed, signs, unsigned_text, real_text}
use Rattle.subsetter_cffdata.specs.Reals.TextSteps.{fitting}
use Rattle.subsetter_cffdata.proofs.RealsLaws.PlainDigits.{only_digits, positive_number, size_of_signed, mantissa_digits}
use Rattle.subsetter_cffdata.proofs.RealsLaws.Reals.{AreDigits, IsCharacter, text_of, trimmed_more}
use Rattle.subsetter_cffdata.proofs.RealsLaws.Trims.{last_of}

-- ---- the sign
below_zero : (n : ℕ) → 0 < n → is_negative (neg_ℤ (pos n)) ≡ true
below_zero zero some = absurd (omega arith)
below_zero (suc n) some = refl

pub sign_of : (negative : Bool) (ds : List ℕ) (power : ℤ) → IsPlain negative ds power → is_negative (signed negative (number ds)) ≡ negative
sign_of false ds power plain = le-ltb (number ds) 0 (omega arith)
sign_of true ds power plain =
    elim (cases_eq (length ds) 0) [
      | inl none ↦ absurd (let no : true ≡ false = plain.no_sign none in cc)
      | inr some ↦ below_zero (number ds) (positive_number ds plain.front (omega arith))
    ]

pub text_is : (negative : Bool) (ds : List ℕ) (power : ℤ) → IsPlain negative ds power → length ds ≤ 64
    → real_text (record { mantissa = signed negative (number ds); power = power }) ≡ signs negative ++ unsigned_text ds power
unfolding real_text
text_is negative ds power plain short = rw (sign_of negative ds power plain, mantissa_digits negative ds (only_digits ds plain.digits_only) plain.front short) refl

-- ---- the last digit
length-trimmed : (ds : List ℕ) → length (trimmed ds) ≤ length ds
length-trimmed [] = omega arith
length-trimmed (d ∷ ds) = by_test (eqb d 0) (eqb (length (trimmed ds)) 0) d ds (length-trimmed ds)
  where
    by_test : (a b : Bool) (d : ℕ) (ds : List ℕ) → length (trimmed ds) ≤ length ds → length (cond (a && b) [] (d ∷ trimmed ds)) ≤ length (d ∷ ds)
    by_test true true d ds le = omega arith
    by_test true false d ds le = omega (arith, le)
    by_test false b d ds le = omega (arith, le)

digit_at : (ds : List ℕ) (i : ℕ) → AreDigits ds → i < length ds → get_or ds i 0 < 10
digit_at [] i all lt = absurd (omega arith)
digit_at (d ∷ ds) zero all lt = all.0
digit_at (d ∷ ds) (suc i) all lt = digit_at ds i all.1 (omega arith)

last_some : (ds : List ℕ) → trimmed ds ≡ ds → 0 < length ds → 0 < get_or ds (length ds - 1) 0
last_some ds back some =
    elim (cases_eq (get_or ds (length ds - 1) 0) 0) [
      | inl z ↦ absurd (
          let n = length ds - 1 in
          let ends : take (length ds) ds ≡ take n ds ++ 0 ∷ [] = last_of ds (length ds) some (omega arith) ∙ ap (λ (d : ℕ). take n ds ++ d ∷ []) z in
          let whole : take (length ds) ds ≡ ds = take_all (length ds) ds (omega arith) in
          let less : trimmed ds ≡ trimmed (take n ds) = ap trimmed (sym whole ∙ ends) ∙ trimmed_more (take n ds) 1 in
          omega (arith, ap length (sym back ∙ less), length-trimmed (take n ds), length-take n ds))
      | inr nz ↦ omega arith
    ]

last_digit : (ds : List ℕ) → AreDigits ds → trimmed ds ≡ ds → 0 < length ds → 0 < number ds % 10
last_digit ds all back some =
    let n = length ds - 1 in
    let next : n + 1 ≡ length ds = omega arith in
    let whole : take (n + 1) ds ≡ ds = ap (λ (k : ℕ). take k ds) next ∙ take_all (length ds) ds (omega arith) in
    let e : number ds ≡ number (take n ds) * 10 + get_or ds n 0 = ap number (sym whole) ∙ number_more 10 ds n (omega arith) in
    let low = digit_at ds n all (omega arith) in
    let high = last_some ds back some in
    omega (arith, e, low, high)

-- ---- the decimal is normal
normal_zero : (negative : Bool) (n : ℕ) (power : ℤ) → n ≡ 0 → power ≡ pos 0 → IsTrue (is_normal (record { mantissa = signed negative n; power = power }))
normal_zero true n power e p = rw (e, p) refl
normal_zero false n power e p = rw (e, p) refl

normal_some : (negative : Bool) (n : ℕ) (power : ℤ) → 0 < n → 0 < n % 10 → IsTrue (is_normal (record { mantissa = signed negative n; power = power }))
normal_some negative n power some last = rw (size_of_signed negative n, ne_eqb n 0 (λ e. omega arith), lt-ltb 0 (n % 10) last) refl

is_normal_of : (negative : Bool) (ds : List ℕ) (power : ℤ) → IsPlain negative ds power → IsTrue (is_normal (record { mantissa = signed negative (number ds); power = power }))
is_normal_of negative ds power plain =
    elim (cases_eq (length ds) 0) [
      | inl none ↦ normal_zero negative (number ds) power (ap number (nil_from_length ds none)) (plain.no_power none)
      | inr some ↦ normal_some negative (number ds) power (positive_number ds plain.front (omega arith)) (last_digit ds (only_digits ds plain.digits_only) plain.back (omega arith))
    ]

size_fits : (negative : Bool) (ds : List ℕ) → AreDigits ds → length ds ≤ 64 → unsigned_abs (signed negative (number ds)) < 10 ^ 64
size_fits negative ds all short =
    let bound = number_lt 10 ds all in
    let positive : 0 < 10 = omega arith in
    let more = pow-le-pow_right positive short in
    rw (size_of_signed negative (number ds)) (omega (arith, bound, more))

pub has_text : (negative : Bool) (ds : List ℕ) (power : ℤ) → IsPlain negative ds power → length ds ≤ 64 → length (real_text (record { mantissa = signed negative (number ds); power = power })) ≤ 64
    → HasText (record { mantissa = signed negative (number ds); power = power })
has_text negative ds power plain short fits = record {
  normal = is_normal_of negative ds power plain;
  size = size_fits negative ds (only_digits ds plain.digits_only) short;
  length_fits = fits;
}

-- ---- the characters
small_characters : (text : List ℕ) → AllByRecursion IsCharacter text → AllByRecursion (λ c. c < 16) text
small_characters [] all = tt
small_characters (c ∷ text) all = (omega (arith, all.0.0), small_characters text all.1)

pub characters_of : (negative : Bool) (ds : List ℕ) (power : ℤ) → IsPlain negative ds power → length ds ≤ 64 → AllByRecursion (λ c. c < 16) (real_text (record { mantissa = signed negative (number ds); power = power }))
characters_of negative ds power plain short =
    small_characters _ (text_of (signed negative (number ds)) power (is_normal_of negative ds power plain) (size_fits negative ds (only_digits ds plain.digits_only) short)).characters

-- ---- a text that fits
pub fits_some : (text kept : List ℕ) → Some kept ≡ fitting text → (kept ≡ text) × (length text ≤ 64)
fits_some text kept e =
    elim (cases_lt 64 (length text)) [
      | inl long ↦ absurd (none-some kept (sym (e ∙ rw (lt-leb (length text) 64 long) refl)))
      | inr short ↦ (same_Some _ _ (e ∙ rw (le-leb (length text) 64 short) refl), short)
    ]

pub fits_none : (text : List ℕ) → None ≡ fitting text → 64 < length text
fits_none text e =
    elim (cases_lt 64 (length text)) [
      | inl long ↦ long
      | inr short ↦ absurd (none-some text (e ∙ rw (le-leb (length text) 64 short) refl))
    ]

pub on_any : {A E : Type 0} {P : Type 0} (r : Result A E) → P → OnOk r P
on_any (Ok x) p = p
on_any (Err e) p = tt
