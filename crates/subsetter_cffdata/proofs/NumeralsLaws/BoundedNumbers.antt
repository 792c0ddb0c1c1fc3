-- Each number of a DICT is bounded, and a thousand times it is a number.
use Rattle.std.proofs.Common.{◌≡◌, ◌≢◌, ℕ, zero, suc, ◌+◌, ◌-◌, ◌*◌, ◌^◌, ◌<◌, eqb, ltb, cond, List, [], ◌∷◌, length, Option, Some, None, refl, arith, inl, inr, sym, subst}
use Rattle.std.specs.Prelude.{ℤ, pos, neg_ℤ, ◌-ℤ◌, FitsSigned, unsigned_abs}
use Rattle.std.specs.Option.{option_map, option_map_or, option_and_then}
use Rattle.std.specs.Int.{w16, w32, cast_signed, is_negative}
use Rattle.std.specs.Int.Digits.{digits_of}
use Rattle.std.specs.List.{AllByRecursion}
use Rattle.std.proofs.lemmas.Bool.{cases_Bool, ltb-true}
use Rattle.std.proofs.lemmas.Int.{ints}
use Rattle.std.proofs.lemmas.Int.Digits.{length-digits_of-le}
use Rattle.std.proofs.lemmas.Option.{none-some, same_Some}
use Rattle.subsetter_cffdata.specs.Bytes.{card}
use Rattle.subsetter_base.specs.Bytes.{byte}
use Rattle.subsetter_cffdata.specs.Reals.Decimals.{Decimal, real_at}
use Rattle.subsetter_cffdata.specs.Numerals.Numbers.{Number, Integer, Real, Fixed, in_i32, signed16, signed32, short_integer, integer_from, dict_number_from}
use Rattle.subsetter_cffdata.specs.Numerals.ReadNumbers.{Within, IsBounded, HasBounded}
use Rattle.subsetter_cffdata.specs.Numerals.Values.{value, thousandfold, thousand}
use Rattle.subsetter_cffdata.specs.Dicts.Dict.{Entry, is_operator, operator_from, entry_in, entry_at, limited, entries_in, entries, operand_limit}
use Rattle.subsetter_cffdata.proofs.Options.{step, unless, when}
use Rattle.subsetter_cffdata.proofs.RealsLaws.Powers.{decimal_within, real_within, thousandfold_within, within_i32}
use Rattle.subsetter_cffdata.proofs.RealsLaws.Reals.{all_take}

-- ---- integers
abbrev FitsFirst : ℤ × List ℕ → Type 0
FitsFirst x = FitsSigned w32 x.0

word_fits : (n : ℕ) → FitsSigned w32 (cast_signed w16 n)
word_fits n = grind (arith, ints)

long_fits : (n : ℕ) → FitsSigned w32 (cast_signed w32 n)
long_fits n = grind (arith, ints)

signed16_fits : (bytes : List ℕ) (x : ℤ × List ℕ) → signed16 bytes ≡ Some x → FitsFirst x
unfolding signed16
signed16_fits bytes x e = let a = step (card 2 bytes) _ x e in subst FitsFirst (same_Some _ _ a.1.1) (word_fits a.0.0)

signed32_fits : (bytes : List ℕ) (x : ℤ × List ℕ) → signed32 bytes ≡ Some x → FitsFirst x
unfolding signed32
signed32_fits bytes x e = let a = step (card 4 bytes) _ x e in subst FitsFirst (same_Some _ _ a.1.1) (long_fits a.0.0)

small_fits : (b : ℕ) → b < 247 → FitsSigned w32 (pos b -ℤ pos 139)
small_fits b lt = grind (arith, ints)

above_fits : (b low : ℕ) → low < 256 → b < 251 → FitsSigned w32 (pos ((b - 247) * 256 + low + 108))
above_fits b low h l = grind (arith, ints)

below_fits : (b low : ℕ) → low < 256 → b < 255 → FitsSigned w32 (neg_ℤ (pos ((b - 251) * 256 + low + 108)))
below_fits b low h l = grind (arith, ints)

-- one byte more
second_fits : (bytes : List ℕ) (f : ℕ → ℤ) (x : ℤ × List ℕ) → ((low : ℕ) → low < 256 → FitsSigned w32 (f low)) → option_and_then (λ (l : ℕ × List ℕ). cond (ltb l.0 256) (Some (f l.0, l.1)) None) (byte bytes) ≡ Some x → FitsFirst x
second_fits bytes f x fits e =
    let s = step (byte bytes) _ x e in
    let w = when (ltb s.0.0 256) _ x s.1.1 in
    subst FitsFirst (same_Some _ _ w.1) (fits s.0.0 (ltb-true s.0.0 256 w.0))

short_fits : (b : ℕ) (bytes : List ℕ) (x : ℤ × List ℕ) → short_integer b bytes ≡ Some x → FitsFirst x
unfolding short_integer
short_fits b bytes x e =
    let low = unless (ltb b 32) _ x e in
    elim (cases_Bool (ltb b 247)) [
      | inl small ↦ subst FitsFirst (same_Some _ _ (rw small at low.1)) (small_fits b (ltb-true b 247 small))
      | inr big ↦ elim (cases_Bool (ltb b 251)) [
        | inl above ↦ second_fits bytes (λ l. pos ((b - 247) * 256 + l + 108)) x (λ l lt. above_fits b l lt (ltb-true b 251 above)) (rw (big, above) at low.1)
        | inr further ↦ (let w = when (ltb b 255) _ x (rw (big, further) at low.1) in second_fits bytes (λ l. neg_ℤ (pos ((b - 251) * 256 + l + 108))) x (λ l lt. below_fits b l lt (ltb-true b 255 w.0)) w.1)
      ]
    ]

integer_fits : (b : ℕ) (bytes : List ℕ) (x : ℤ × List ℕ) → integer_from b bytes ≡ Some x → FitsFirst x
unfolding integer_from
integer_fits b bytes x e =
    elim (cases_Bool (eqb b 28)) [
      | inl is ↦ signed16_fits bytes x (rw is at e)
      | inr other ↦ elim (cases_Bool (eqb b 29)) [
        | inl is ↦ signed32_fits bytes x (rw (other, is) at e)
        | inr neither ↦ short_fits b bytes x (rw (other, neither) at e)
      ]
    ]

-- ---- numbers and entries
pub number_bounded : (b : ℕ) (bytes : List ℕ) (x : Number × List ℕ) → dict_number_from b bytes ≡ Some x → IsBounded x.0
unfolding dict_number_from
number_bounded b bytes x e =
    elim (cases_Bool (eqb b 30)) [
      | inl is ↦ (let s = step (real_at bytes) _ x (rw is at e) in subst (λ (y : Number × List ℕ). IsBounded y.0) (same_Some _ _ s.1.1) (real_within bytes s.0 s.1.0))
      | inr other ↦ (let s = step (integer_from b bytes) _ x (rw other at e) in subst (λ (y : Number × List ℕ). IsBounded y.0) (same_Some _ _ s.1.1) (integer_fits b bytes s.0 s.1.0))
    ]

entry_in_bounded : (steps : ℕ) (bytes : List ℕ) (e : Entry × List ℕ) → entry_in steps bytes ≡ Some e → HasBounded e.0
unfolding entry_in
entry_in_bounded zero bytes e h = absurd (none-some e h)
entry_in_bounded (suc steps) [] e h = absurd (none-some e h)
entry_in_bounded (suc steps) (b ∷ bytes) e h =
    elim (cases_Bool (is_operator b)) [
      | inl begins ↦ (let o = step (operator_from b bytes) _ e (rw begins at h) in subst (λ (y : Entry × List ℕ). HasBounded y.0) (same_Some _ _ o.1.1) tt)
      | inr other ↦ (let x = step (dict_number_from b bytes) _ e (rw other at h) in
          let y = step (entry_in steps x.0.1) _ e x.1.1 in
          subst (λ (z : Entry × List ℕ). HasBounded z.0) (same_Some _ _ y.1.1) (number_bounded b bytes x.0 x.1.0, entry_in_bounded steps x.0.1 y.0 y.1.0))
    ]

one_more : (steps : ℕ) (o : Option (Entry × List ℕ)) → ((e : Entry × List ℕ) → o ≡ Some e → HasBounded e.0) → ((rest : List ℕ) → AllByRecursion HasBounded (entries_in steps rest))
    → AllByRecursion HasBounded (option_map_or (λ e. limited e.0 ∷ entries_in steps e.1) o [])
one_more steps None read more = tt
one_more steps (Some e) read more = (all_take IsBounded operand_limit e.0.operands (read e refl), more e.1)

entries_in_bounded : (steps : ℕ) (bytes : List ℕ) → AllByRecursion HasBounded (entries_in steps bytes)
unfolding entries_in entry_at
entries_in_bounded zero bytes = tt
entries_in_bounded (suc steps) bytes = one_more steps (entry_at bytes) (λ e h. entry_in_bounded (length bytes) bytes e h) (λ rest. entries_in_bounded steps rest)

pub entries_bounded : (bytes : List ℕ) → AllByRecursion HasBounded (entries bytes)
unfolding entries
entries_bounded bytes = entries_in_bounded (length bytes) bytes

-- ---- a thousand times such a number
value_within : (x : Number) → IsBounded x → Within 1127 (value x).power
value_within (Integer z) bounded =
    let size : unsigned_abs z < 10 ^ 64 = omega (arith, ints, bounded.sfits) in
    let w : Within 64 (value (Integer z)).power = decimal_within (is_negative z) (digits_of 10 (unsigned_abs z)) (pos 0) 0 (omega arith) (length-digits_of-le 10 64 (unsigned_abs z) (omega arith) size) in
    omega (arith, w)
value_within (Real d) bounded = bounded
value_within (Fixed k) bounded = absurd bounded

held_there : (d : Decimal) (o : Option ℤ) (z : ℤ) → o ≡ Some z → option_map Real (option_map (λ power. record { mantissa = d.mantissa; power = power }) o) ≢ None
held_there d o z e = λ h. none-some _ (sym (rw e at h))

pub thousand_there : (x : Number) → IsBounded x → thousand x ≢ None
unfolding thousand
thousand_there x bounded = held_there (thousandfold (value x)) (in_i32 (thousandfold (value x)).power) (thousandfold (value x)).power (within_i32 (thousandfold (value x)).power (thousandfold_within (value x) (value_within x bounded)))
