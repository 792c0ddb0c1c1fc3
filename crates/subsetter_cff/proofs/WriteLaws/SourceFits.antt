-- The parts that are answered for a source can be laid out.
use Rattle.std.proofs.Common.{◌≡◌, ℕ, ◌<◌, ◌^◌, Bool, true, false, ltb, ◌||◌, List, [], ◌∷◌, ◌++◌, length, Option, Some, None, refl, ap, arith, inl, inr, ◌∙◌, sym, subst}
use Rattle.std.specs.Prelude.{ℤ, pos, negsuc, unsigned_abs, unwrap_or}
use Rattle.std.specs.Option.{option_map, option_and_then}
use Rattle.std.specs.Int.{is_negative}
use Rattle.std.specs.Int.Digits.{digits_of}
use Rattle.std.specs.List.{AllByRecursion}
use Rattle.std.proofs.lemmas.Bool.{cases_Bool, ltb-true, ltb-false}
use Rattle.std.proofs.lemmas.Int.{ints}
use Rattle.std.proofs.lemmas.Int.Digits.{all_below_base_digits_of, length-digits_of-le}
use Rattle.std.proofs.lemmas.Option.{none-some, same_Some}
use Rattle.subsetter_cffdata.specs.Reals.Decimals.{Decimal, real_text, text_limit}
use Rattle.subsetter_cffdata.specs.Numerals.Numbers.{Number, Integer, Real, Fixed, FitsDict, is_too_long, in_i32}
use Rattle.subsetter_cffdata.specs.Numerals.Values.{value, thousandfold, held, thousand, by_1000}
use Rattle.subsetter_cffdata.specs.Dicts.Dict.{Entry, FitsNewEntry}
use Rattle.subsetter_cffdata.proofs.RealsLaws.PlainDigits.{digits_are_all}
use Rattle.subsetter_cff.specs.Read.Strings.{FontString, Custom, standard_strings, string_of, string_by}
use Rattle.subsetter_cff.specs.Read.Entries.Matrices.{thousandth, thousandth_matrix, unit_matrix, zero_box}
use Rattle.subsetter_cff.specs.Write.Laying.Layout.{rewritten_entries}
use Rattle.subsetter_cff.specs.Write.Laying.Fits.{FitNumbers, FitsString}
use Rattle.subsetter_cff.specs.Write.Made.{new_matrix}
use Rattle.subsetter_cff.specs.Write.NewDicts.WrittenNumbers.{any_long, entry_numbers}
use Rattle.subsetter_cffdata.specs.Dicts.Operands.{string_operand}
use Rattle.subsetter_cff.proofs.WriteLaws.Keeping.{in_i32_is}
use Rattle.subsetter_cff.proofs.WriteLaws.LayingLaws.Sizes.{plain_fits}
use Rattle.subsetter_cffdata.proofs.Options.{step}
use Rattle.subsetter_cff.proofs.ReadLaws.EntriesLaws.Plains.{PlainDecimal, text_fits, decimal_plain, thousandfold_plain}
use Rattle.subsetter_cff.proofs.ReadLaws.EntriesLaws.ReadNumbers.{IsWritable, all_writable}
use Rattle.subsetter_cff.proofs.ReadLaws.SourceBytes.{Fitting, AreWritable}

-- ---- reals that aren't too long
or_false : (a b : Bool) → a || b ≡ false → (a ≡ false) × (b ≡ false)
or_false true b e = absurd cc
or_false false b e = (refl, e)

pub short_front : (xs ys : List Number) → any_long (xs ++ ys) ≡ false → any_long xs ≡ false
short_front [] ys e = refl
short_front (x ∷ xs) ys e = let p = or_false (is_too_long x) (any_long (xs ++ ys)) e in rw p.0 (short_front xs ys p.1)

pub short_back : (xs ys : List Number) → any_long (xs ++ ys) ≡ false → any_long ys ≡ false
short_back [] ys e = e
short_back (x ∷ xs) ys e = short_back xs ys (or_false (is_too_long x) (any_long (xs ++ ys)) e).1

read_fits : (x : Number) → IsWritable x → is_too_long x ≡ false → FitsDict x
read_fits (Integer z) was short = was
read_fits (Real d) was short = text_fits d was (ltb-false text_limit (length (real_text d)) short)
read_fits (Fixed k) was short = absurd was

all_fit : (xs : List Number) → AllByRecursion IsWritable xs → any_long xs ≡ false → AllByRecursion FitsDict xs
all_fit [] all e = tt
all_fit (x ∷ xs) all e = let p = or_false (is_too_long x) (any_long xs) e in (read_fits x all.0 p.0, all_fit xs all.1 p.1)

pub numbers_fit : (xs : List Number) → AreWritable xs → any_long xs ≡ false → FitNumbers xs
numbers_fit xs read short = record { each = all_fit xs read.each short; few = read.few }

-- ---- matrices and boxes that are added
zero_fits : IsWritable (Integer (pos 0))
zero_fits = record { sfits = omega arith }

one_fits : IsWritable (Integer (pos 1))
one_fits = record { sfits = omega arith }

thousandth_was : IsWritable thousandth
thousandth_was = record { negative = false; ds = 1 ∷ []; power = negsuc 2; plain = record { digits_only = refl; front = refl; back = refl; no_sign = λ e. refl; no_power = λ e. absurd (omega arith) }; short = omega arith; is = refl }

pub thousandth_read : AreWritable thousandth_matrix
thousandth_read = record { each = (thousandth_was, (zero_fits, (zero_fits, (thousandth_was, (zero_fits, (zero_fits, tt)))))); few = omega arith }

pub unit_read : AreWritable unit_matrix
unit_read = record { each = (one_fits, (zero_fits, (zero_fits, (one_fits, (zero_fits, (zero_fits, tt)))))); few = omega arith }

pub box_read : AreWritable zero_box
box_read = record { each = (zero_fits, (zero_fits, (zero_fits, (zero_fits, tt)))); few = omega arith }

pub or_else_read : (o : Option (List Number)) (xs : List Number) → ((ys : List Number) → o ≡ Some ys → AreWritable ys) → AreWritable xs → AreWritable (unwrap_or o xs)
or_else_read None xs read other = other
or_else_read (Some ys) xs read other = read ys refl

-- ---- a matrix a thousand times as great
value_plain : (x : Number) → IsWritable x → PlainDecimal (value x)
value_plain (Integer z) was =
    let small : unsigned_abs z < 10 ^ 64 = omega (arith, ints, was.sfits) in
    decimal_plain (is_negative z) (digits_of 10 (unsigned_abs z)) (pos 0) (digits_are_all (digits_of 10 (unsigned_abs z)) (all_below_base_digits_of 10 (unsigned_abs z) (omega arith)))
    (length-digits_of-le 10 64 (unsigned_abs z) (omega arith) small)
value_plain (Real d) was = was
value_plain (Fixed k) was = absurd was

held_plain : (d e : Decimal) (o : Option ℤ) → PlainDecimal d → ((z : ℤ) → o ≡ Some z → z ≡ d.power) → option_map (λ power. record { mantissa = d.mantissa; power = power }) o ≡ Some e → PlainDecimal e
held_plain d e None p same h = absurd (none-some e h)
held_plain d e (Some z) p same h = subst PlainDecimal (ap (λ (q : ℤ). record { mantissa = d.mantissa; power = q }) (sym (same z refl)) ∙ same_Some _ _ h) p

real_of : (o : Option Decimal) (y : Number) → ((d : Decimal) → o ≡ Some d → PlainDecimal d) → option_map Real o ≡ Some y → IsWritable y
real_of None y plain e = absurd (none-some y e)
real_of (Some d) y plain e = subst IsWritable (same_Some _ _ e) (plain d refl)

thousand_read : (x y : Number) → IsWritable x → thousand x ≡ Some y → IsWritable y
unfolding thousand
thousand_read x y was e =
    real_of (held (thousandfold (value x))) y (λ d h. held_plain (thousandfold (value x)) d (in_i32 (thousandfold (value x)).power) (thousandfold_plain (value x) (value_plain x was)) (in_i32_is (thousandfold (value x)).power) h) e

six : (a b c d e f : Number) → IsWritable a → IsWritable b → IsWritable c → IsWritable d → IsWritable e → IsWritable f → AreWritable (a ∷ b ∷ c ∷ d ∷ e ∷ f ∷ [])
six a b c d e f p q r s t u = record { each = (p, (q, (r, (s, (t, (u, tt)))))); few = omega arith }

by_1000_read : (m n : List Number) → AreWritable m → by_1000 m ≡ Some n → AreWritable n
unfolding by_1000
by_1000_read (a ∷ b ∷ c ∷ d ∷ e ∷ f ∷ []) n was h =
    let s1 = step (thousand a) _ n h in
    let s2 = step (thousand b) _ n s1.1.1 in
    let s3 = step (thousand c) _ n s2.1.1 in
    let s4 = step (thousand d) _ n s3.1.1 in
    let all = was.each in
    subst AreWritable (same_Some _ _ s4.1.1) (six s1.0 s2.0 s3.0 s4.0 (Real (value e)) (Real (value f)) (thousand_read a s1.0 all.0 s1.1.0) (thousand_read b s2.0 all.1.0 s2.1.0) (thousand_read c s3.0 all.1.1.0 s3.1.0)
    (thousand_read d s4.0 all.1.1.1.0 s4.1.0) (value_plain e all.1.1.1.1.0) (value_plain f all.1.1.1.1.1.0))
by_1000_read [] n was h = absurd (none-some n h)
by_1000_read (a ∷ []) n was h = absurd (none-some n h)
by_1000_read (a ∷ b ∷ []) n was h = absurd (none-some n h)
by_1000_read (a ∷ b ∷ c ∷ []) n was h = absurd (none-some n h)
by_1000_read (a ∷ b ∷ c ∷ d ∷ []) n was h = absurd (none-some n h)
by_1000_read (a ∷ b ∷ c ∷ d ∷ e ∷ []) n was h = absurd (none-some n h)
by_1000_read (a ∷ b ∷ c ∷ d ∷ e ∷ f ∷ g ∷ m) n was h = absurd (none-some n h)

pub new_matrix_read : (top own : Option (List Number)) (m : List Number) → ((xs : List Number) → own ≡ Some xs → AreWritable xs) → new_matrix top own ≡ Some m → AreWritable m
new_matrix_read top None m read e = subst AreWritable (same_Some _ _ e) unit_read
new_matrix_read (Some t) (Some o) m read e = subst AreWritable (same_Some _ _ e) (read o refl)
new_matrix_read None (Some o) m read e = by_1000_read o m (read o refl) e

-- ---- strings
custom_fits : (o : Option (List ℕ)) (t : FontString) → option_map Custom o ≡ Some t → FitsString (Some t)
custom_fits None t e = absurd (none-some t e)
custom_fits (Some s) t e = subst (λ x. FitsString (Some x)) (same_Some _ _ e) tt

standard_or : (ss : List (Option (List ℕ))) (s : ℕ) (t : FontString) → string_of ss s ≡ Some t → FitsString (Some t)
unfolding string_of
standard_or ss s t e =
    elim (cases_Bool (ltb s standard_strings)) [
      | inl standard ↦ subst (λ x. FitsString (Some x)) (same_Some _ _ (rw standard at e)) (ltb-true s standard_strings standard)
      | inr other ↦ custom_fits _ t (rw other at e)
    ]

found : (ss : List (Option (List ℕ))) (s : ℕ) (o : Option FontString) (t : Option FontString) → string_of ss s ≡ o → option_map Some o ≡ Some t → FitsString t
found ss s None t is e = absurd (none-some t e)
found ss s (Some x) t is e = subst FitsString (same_Some _ _ e) (standard_or ss s x is)

named : (ss : List (Option (List ℕ))) (s : Option ℕ) (t : Option FontString) → option_and_then (λ n. option_map Some (string_of ss n)) s ≡ Some t → FitsString t
named ss None t e = absurd (none-some t e)
named ss (Some s) t e = found ss s (string_of ss s) t refl e

pub string_fits : (ss : List (Option (List ℕ))) (o : Option (List Number)) (t : Option FontString) → string_by ss o ≡ Some t → FitsString t
string_fits ss None t e = subst FitsString (same_Some _ _ e) tt
string_fits ss (Some xs) t e = named ss (string_operand xs) t e

-- ---- entries
pub private_fit : (es : List Entry) → Fitting es → any_long (entry_numbers es) ≡ false → AllByRecursion FitsNewEntry (rewritten_entries es)
private_fit [] all e = tt
private_fit (x ∷ es) all e = (
  plain_fits x.operator x.operands all.0.operator (numbers_fit x.operands (record { each = all_writable x.operands all.0.operands; few = all.0.few }) (short_front x.operands (entry_numbers es) e)),
  private_fit es all.1 (short_back x.operands (entry_numbers es) e),
)
