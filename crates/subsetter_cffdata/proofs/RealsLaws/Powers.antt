-- The powers of ten of the reals that were read are small.
use Rattle.std.proofs.Common.{◌≡◌, ℕ, ◌+◌, ◌-◌, ◌≤◌, Bool, true, false, cond, eqb, leb, List, [], ◌∷◌, ◌++◌, length, Option, Some, None, refl, arith, inl, inr, subst, length-append}
use Rattle.std.specs.Prelude.{ℤ, pos, negsuc, ◌+ℤ◌, ◌-ℤ◌, nat_le, nat_lt}
use Rattle.std.specs.Option.{option_map}
use Rattle.std.proofs.lemmas.Bool.{cases_Bool, cases_eq, ne_eqb, leb-true, lt-ltb}
use Rattle.std.proofs.lemmas.Int.{ints}
use Rattle.std.proofs.lemmas.Option.{none-some, same_Some}
use Rattle.subsetter_cffdata.specs.Reals.Decimals.{Decimal, is_zero, digits, after_digits, sign, signed, fraction, number, trimmed, decimal, small_number, exponent_value, exponent, exponent_mark, unsigned_real, real_of, text_at, real_at, text_limit}
use Rattle.subsetter_cffdata.specs.Numerals.Numbers.{in_i32}
use Rattle.subsetter_cffdata.specs.Numerals.ReadNumbers.{Within}
use Rattle.subsetter_cffdata.specs.Numerals.Values.{thousandfold}
use Rattle.subsetter_cffdata.proofs.Options.{step, unless, when}

signed_within : (negative : Bool) (n : ℕ) → n ≤ 999 → Within 999 (signed negative n)
signed_within true n le = grind (arith, ints, le)
signed_within false n le = le

more_within : (n m k : ℕ) (z : ℤ) → Within n z → k ≤ m → Within (n + m) (z +ℤ pos k)
more_within n m k (pos a) h le = omega (arith, ints, h, le)
more_within n m k (negsuc a) h le = omega (arith, ints, h, le)

less_within : (n m k : ℕ) (z : ℤ) → Within n z → k ≤ m → Within (n + m) (z -ℤ pos k)
less_within n m k (pos a) h le = omega (arith, ints, h, le)
less_within n m k (negsuc a) h le = omega (arith, ints, h, le)

-- ---- the parts of a text are no longer than the text
pub length-digits : (text : List ℕ) → length (digits text) + length (after_digits text) ≡ length text
length-digits [] = refl
length-digits (c ∷ text) =
    elim (cases_Bool (nat_lt c 10)) [
      | inl digit ↦ rw digit (omega (arith, length-digits text))
      | inr other ↦ rw other (omega arith)
    ]

pub length-fraction : (text : List ℕ) → length (fraction text).0 ≤ length text
length-fraction [] = omega arith
length-fraction (c ∷ text) =
    elim (cases_eq c 10) [
      | inl is ↦ rw is (omega (arith, length-digits text))
      | inr other ↦ rw (ne_eqb c 10 other) (omega arith)
    ]

pub length-sign : (text : List ℕ) → length (sign text).1 ≤ length text
length-sign [] = omega arith
length-sign (c ∷ text) =
    elim (cases_eq c 14) [
      | inl is ↦ rw is (omega arith)
      | inr other ↦ rw (ne_eqb c 14 other) (omega arith)
    ]

-- ---- the exponent of a text
small_within : (negative : Bool) (ds : List ℕ) (z : ℤ) → option_map (signed negative) (small_number ds) ≡ Some z → Within 999 z
small_within negative ds z e =
    elim (cases_Bool (leb (number ds) 999)) [
      | inl small ↦ subst (Within 999) (same_Some _ _ (rw small at e)) (signed_within negative (number ds) (leb-true (number ds) 999 small))
      | inr big ↦ absurd (none-some z (rw big at e))
    ]

value_within : (negative : Bool) (text : List ℕ) (z : ℤ) → exponent_value negative text ≡ Some z → Within 999 z
value_within negative text z e =
    let u = unless (eqb (length (digits text)) 0) _ z e in
    let w = when (eqb (length (after_digits text)) 0) _ z u.1 in
    small_within negative (digits text) z w.1

exponent_within : (text : List ℕ) (z : ℤ) → exponent text ≡ Some z → Within 999 z
exponent_within [] z e = subst (Within 999) (same_Some _ _ e) (omega arith)
exponent_within (c ∷ text) z e = value_within (sign text).0 (sign text).1 z (when (eqb c exponent_mark) _ z e).1

-- ---- the power of a decimal
power_of : (negative : Bool) (n : ℕ) (p : ℤ) (b : Bool) (k m : ℕ) → Within m p → k ≤ 64 → Within (m + 64) (cond {A = Decimal} b (record { mantissa = pos 0; power = pos 0 }) (record { mantissa = signed negative n; power = p +ℤ pos k })).power
power_of negative n p true k m h le = omega arith
power_of negative n p false k m h le = more_within m 64 k p h le

pub decimal_within : (negative : Bool) (ds : List ℕ) (p : ℤ) (m : ℕ) → Within m p → length ds ≤ 64 → Within (m + 64) (decimal negative ds p).power
decimal_within negative ds p m h le = power_of negative (number (trimmed ds)) p (eqb (number (trimmed ds)) 0) (length ds - length (trimmed ds)) m h (omega (arith, le))

-- what an optional integer makes, where each such integer makes something of that kind
made : (f : ℤ → Decimal) (o : Option ℤ) (d : Decimal) (n : ℕ) → ((z : ℤ) → o ≡ Some z → Within n (f z).power) → option_map f o ≡ Some d → Within n d.power
made f None d n each e = absurd (none-some d e)
made f (Some z) d n each e = subst (λ (x : Decimal). Within n x.power) (same_Some _ _ e) (each z refl)

unsigned_within : (negative : Bool) (text : List ℕ) (d : Decimal) → length text ≤ 64 → unsigned_real negative text ≡ Some d → Within 1127 d.power
unfolding unsigned_real
unsigned_within negative text d le e =
    let f = fraction (after_digits text) in
    let ds = digits text ++ f.0 in
    let u = unless (eqb (length (digits text) + length f.0) 0) _ d e in
    let few : length f.0 ≤ 64 = omega (arith, le, length-digits text, length-fraction (after_digits text)) in
    let all : length (digits text ++ f.0) ≤ 64 = omega (arith, le, length-append (digits text) f.0, length-digits text, length-fraction (after_digits text)) in
    made (λ z. decimal negative ds (z -ℤ pos (length f.0))) (exponent f.1) d 1127 (λ z h. decimal_within negative ds (z -ℤ pos (length f.0)) 1063 (less_within 999 64 (length f.0) z (exponent_within f.1 z h) few) all) u.1

pub real_within : (bytes : List ℕ) (x : Decimal × List ℕ) → real_at bytes ≡ Some x → Within 1127 x.0.power
unfolding real_at real_of
real_within bytes x e =
    let a = step (text_at bytes) _ x e in
    let w = when (nat_le (length a.0.0) text_limit) _ x a.1.1 in
    let b = step (unsigned_real (sign a.0.0).0 (sign a.0.0).1) _ x w.1 in
    subst (λ (y : Decimal × List ℕ). Within 1127 y.0.power) (same_Some _ _ b.1.1) (unsigned_within (sign a.0.0).0 (sign a.0.0).1 b.0 (omega (arith, leb-true (length a.0.0) 64 w.0, length-sign a.0.0)) b.1.0)

-- ---- a thousand times as great
pub thousandfold_within : (d : Decimal) → Within 1127 d.power → Within 1130 (thousandfold d).power
thousandfold_within d h =
    elim (cases_Bool (is_zero d.mantissa)) [
      | inl none ↦ rw none (omega (arith, h))
      | inr some ↦ rw some (more_within 1127 3 3 d.power h (omega arith))
    ]

pub within_i32 : (z : ℤ) → Within 1130 z → in_i32 z ≡ Some z
unfolding in_i32
within_i32 (pos n) h = rw (lt-ltb n 2147483648 (omega (arith, h))) refl
within_i32 (negsuc n) h = rw (lt-ltb n 2147483648 (omega (arith, h))) refl
