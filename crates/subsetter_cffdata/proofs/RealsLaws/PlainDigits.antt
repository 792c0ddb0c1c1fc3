-- Digits without zeros in front and at the end: a decimal has just one such form.
use Rattle.std.proofs.Common.{◌≡◌, ℕ, zero, suc, ◌+◌, ◌-◌, ◌*◌, ◌/◌, ◌%◌, ◌<◌, ◌≤◌, Bool, true, false, List, [], ◌∷◌, ◌++◌, drop, length, get_or, refl, ap, arith, inl, inr, ◌∙◌, sym, subst, append_assoc}
use Rattle.std.specs.Prelude.{ℤ, pos, ◌+ℤ◌, ◌==◌, ◌&&◌, if◌then◌else◌, unsigned_abs}
use Rattle.std.specs.Int.Digits.{digits_of, number_from_digits_after}
use Rattle.std.proofs.Math.Nat.{pow-le-pow_right}
use Rattle.std.proofs.lemmas.Bool.{cases_eq, ne_eqb, cases_Bool, cases_lt, lt-ltb, le-ltb}
use Rattle.std.proofs.lemmas.List.{append-nil, drop_more, nil_from_length}
use Rattle.std.proofs.lemmas.Int.Digits.{digits_of_step, number_lt, number_after_ge}
use Rattle.subsetter_cffdata.specs.Reals.Decimals.{IsPlain, stripped, trimmed, number, signed, decimal, decimal_digits, digits}
use Rattle.subsetter_cffdata.proofs.RealsLaws.Reals.{AreDigits, digits_are, digits_front}

-- ---- the digits of the number that digits are
step_is : (n d : ℕ) → 0 < n * 10 + d → d < 10 → digits_of 10 (n * 10 + d) ≡ digits_of 10 n ++ d ∷ []
step_is n d some small =
    let high : (n * 10 + d) / 10 ≡ n = omega arith in
    let low : (n * 10 + d) % 10 ≡ d = omega arith in
    digits_of_step 10 (n * 10 + d) (omega arith) some ∙ rw (high, low) refl

digits_after : (n : ℕ) (ds : List ℕ) → 0 < n → AreDigits ds → digits_of 10 (number_from_digits_after 10 n ds) ≡ digits_of 10 n ++ ds
digits_after n [] some all = sym (append-nil (digits_of 10 n))
digits_after n (d ∷ ds) some all =
    digits_after (n * 10 + d) ds (omega arith) all.1 ∙ ap (λ (x : List ℕ). x ++ ds) (step_is n d (omega arith) all.0) ∙ append_assoc (digits_of 10 n) (d ∷ []) ds

-- ---- zeros in front
length-stripped : (ds : List ℕ) → length (stripped ds) ≤ length ds
length-stripped [] = omega arith
length-stripped (d ∷ ds) =
    let rest = length-stripped ds in
    elim (cases_eq d 0) [
      | inl z ↦ rw z (omega (arith, rest))
      | inr nz ↦ rw (ne_eqb d 0 nz) (omega arith)
    ]

zero_is_stripped : (d : ℕ) (ds : List ℕ) → d ≡ 0 → stripped (d ∷ ds) ≡ d ∷ ds → ⊥
zero_is_stripped d ds z front =
    let shorter : length (stripped ds) ≡ length (d ∷ ds) = ap length (rw z at front) in
    let rest = length-stripped ds in
    absurd (omega (arith, rest, shorter))

pub stripped_again : (ds : List ℕ) → stripped (stripped ds) ≡ stripped ds
stripped_again [] = refl
stripped_again (d ∷ ds) =
    elim (cases_eq d 0) [
      | inl z ↦ rw z (stripped_again ds)
      | inr nz ↦ rw (ne_eqb d 0 nz, ne_eqb d 0 nz) refl
    ]

pub number_stripped : (ds : List ℕ) → number (stripped ds) ≡ number ds
number_stripped [] = refl
number_stripped (d ∷ ds) =
    elim (cases_eq d 0) [
      | inl z ↦ rw z (number_stripped ds)
      | inr nz ↦ rw (ne_eqb d 0 nz) refl
    ]

pub digits_stripped : (ds : List ℕ) → AreDigits ds → AreDigits (stripped ds)
digits_stripped [] all = tt
digits_stripped (d ∷ ds) all =
    elim (cases_eq d 0) [
      | inl z ↦ rw z (digits_stripped ds all.1)
      | inr nz ↦ rw (ne_eqb d 0 nz) all
    ]

-- ---- zeros at the end
tail_is : (b : Bool) (d : ℕ) (kept ds : List ℕ) → (if b then [] else d ∷ kept) ≡ d ∷ ds → kept ≡ ds
tail_is true d kept ds e = absurd cc
tail_is false d kept ds e = ap (drop 1) e

tail_trimmed : (d : ℕ) (ds : List ℕ) → trimmed (d ∷ ds) ≡ d ∷ ds → trimmed ds ≡ ds
tail_trimmed d ds back = tail_is ((d == 0) && (length (trimmed ds) == 0)) d (trimmed ds) ds back

pub trimmed_stripped : (ds : List ℕ) → trimmed ds ≡ ds → trimmed (stripped ds) ≡ stripped ds
trimmed_stripped [] back = refl
trimmed_stripped (d ∷ ds) back =
    elim (cases_eq d 0) [
      | inl z ↦ rw z (trimmed_stripped ds (tail_trimmed d ds back))
      | inr nz ↦ rw (ne_eqb d 0 nz) back
    ]

pub trimmed_again : (ds : List ℕ) → trimmed (trimmed ds) ≡ trimmed ds
trimmed_again [] = refl
trimmed_again (d ∷ ds) =
    elim (cases_Bool ((d == 0) && (length (trimmed ds) == 0))) [
      | inl none ↦ rw none refl
      | inr some ↦ rw (some, trimmed_again ds, some) refl
    ]

pub digits_again : (ds : List ℕ) → AreDigits ds → stripped ds ≡ ds → digits_of 10 (number ds) ≡ ds
digits_again [] all front = refl
digits_again (d ∷ ds) all front =
    elim (cases_eq d 0) [
      | inl z ↦ absurd (zero_is_stripped d ds z front)
      | inr nz ↦ digits_after (0 * 10 + d) ds (omega arith) all.1 ∙ ap (λ (x : List ℕ). x ++ ds) (step_is 0 d (omega arith) all.0)
    ]

-- ---- the digits that are kept of a list
pub plain_part : (ds : List ℕ) → AreDigits ds → AreDigits (trimmed ds)
plain_part [] all = tt
plain_part (d ∷ ds) all =
    elim (cases_Bool ((d == 0) && (length (trimmed ds) == 0))) [
      | inl none ↦ rw none tt
      | inr some ↦ rw some (all.0, plain_part ds all.1)
    ]

pub all_digits : (text : List ℕ) → AreDigits (digits text)
all_digits [] = tt
all_digits (c ∷ text) =
    elim (cases_lt c 10) [
      | inl low ↦ rw (lt-ltb c 10 low) (low, all_digits text)
      | inr high ↦ rw (le-ltb c 10 high) tt
    ]

-- a list that is its own digits has nothing else
pub only_digits : (ds : List ℕ) → digits ds ≡ ds → AreDigits ds
only_digits ds e = subst AreDigits e (all_digits ds)

pub digits_are_all : (ds : List ℕ) → AreDigits ds → digits ds ≡ ds
digits_are_all ds all = ap digits (sym (append-nil ds)) ∙ digits_front ds [] all ∙ append-nil ds

pub size_of_signed : (negative : Bool) (n : ℕ) → unsigned_abs (signed negative n) ≡ n
size_of_signed true zero = refl
size_of_signed true (suc n) = refl
size_of_signed false n = refl

pub digits_twice : (text : List ℕ) → digits (digits text) ≡ digits text
digits_twice text = digits_are_all (digits text) (all_digits text)

pub digits_both : (front following : List ℕ) → digits front ≡ front → digits following ≡ following → digits (front ++ following) ≡ front ++ following
digits_both front following f b = digits_front front following (only_digits front f) ∙ ap (λ (x : List ℕ). front ++ x) b

-- what isn't a digit ends the digits
pub no_digits : (text : List ℕ) (i : ℕ) → i < length text → 10 ≤ get_or text i 0 → digits (drop i text) ≡ []
no_digits text i lt high = ap digits (drop_more text i 0 lt) ∙ rw (le-ltb (get_or text i 0) 10 high) refl

-- the digits that are kept are plain
pub kept_plain : (negative : Bool) (ds : List ℕ) (power : ℤ) → digits ds ≡ ds → 0 < length (stripped (trimmed ds)) → IsPlain negative (stripped (trimmed ds)) power
kept_plain negative ds power only some = record {
  digits_only = digits_are_all _ (digits_stripped (trimmed ds) (plain_part ds (only_digits ds only)));
  front = stripped_again (trimmed ds);
  back = trimmed_stripped (trimmed ds) (trimmed_again ds);
  no_sign = λ none. absurd (omega arith);
  no_power = λ none. absurd (omega arith);
}

-- the digits of a number below 10 ^ 64
pub plain_digits : (ds : List ℕ) → AreDigits ds → stripped ds ≡ ds → length ds ≤ 64 → decimal_digits (number ds) ≡ ds
unfolding decimal_digits
plain_digits ds all front short =
    let bound = number_lt 10 ds all in
    let positive : 0 < 10 = omega arith in
    let wide : length ds ≤ 65 = omega arith in
    let more = pow-le-pow_right positive wide in
    digits_are 65 (number ds) (omega (arith, bound, more)) ∙ digits_again ds all front

pub mantissa_digits : (negative : Bool) (ds : List ℕ) → AreDigits ds → stripped ds ≡ ds → length ds ≤ 64 → decimal_digits (unsigned_abs (signed negative (number ds))) ≡ ds
mantissa_digits negative ds all front short = ap decimal_digits (size_of_signed negative (number ds)) ∙ plain_digits ds all front short

pub positive_number : (ds : List ℕ) → stripped ds ≡ ds → 0 < length ds → 0 < number ds
positive_number [] front some = absurd (omega arith)
positive_number (d ∷ ds) front some =
    elim (cases_eq d 0) [
      | inl z ↦ absurd (zero_is_stripped d ds z front)
      | inr nz ↦ (let more = number_after_ge 10 (0 * 10 + d) ds (omega arith) in omega (arith, more))
    ]

-- ---- what is kept of the digits, as a decimal
pub plain_is : (negative : Bool) (ds : List ℕ) (power p : ℤ) → digits ds ≡ ds → 0 < length (stripped (trimmed ds)) → power +ℤ pos (length ds - length (trimmed ds)) ≡ p
    → record { mantissa = signed negative (number (stripped (trimmed ds))); power = p } ≡ decimal negative ds power
plain_is negative ds power p only some e =
    let positive = positive_number (stripped (trimmed ds)) (stripped_again (trimmed ds)) some in
    let same = number_stripped (trimmed ds) in
    rw (ne_eqb (number (trimmed ds)) 0 (λ z. omega (arith, positive, same)), e, same) refl

pub nothing_plain : (negative : Bool) (ds : List ℕ) (power : ℤ) → length (stripped (trimmed ds)) ≡ 0 → record { mantissa = pos 0; power = pos 0 } ≡ decimal negative ds power
nothing_plain negative ds power none =
    let zero_number : number (trimmed ds) ≡ 0 = sym (number_stripped (trimmed ds)) ∙ ap number (nil_from_length (stripped (trimmed ds)) none) in
    rw zero_number refl

pub same_decimal : (negative : Bool) (xs ys : List ℕ) (p q : ℤ) → xs ≡ ys → p ≡ q → decimal negative xs p ≡ decimal negative ys q
same_decimal negative xs ys p q e h = rw (e, h) refl

-- ---- the digit 1
pub one_is_plain : (power : ℤ) → IsPlain false (1 ∷ []) power
one_is_plain power = record { digits_only = refl; front = refl; back = refl; no_sign = λ e. absurd (omega (arith, e)); no_power = λ e. absurd (omega (arith, e)) }
