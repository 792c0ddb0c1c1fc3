-- Decimals that were read have a text, where it isn't too long.
use Rattle.std.proofs.Common.{◌≡◌, ℕ, suc, ◌+◌, ◌-◌, ◌≤◌, Bool, true, false, cond, eqb, List, [], ◌∷◌, ◌++◌, length, Option, Some, None, refl, ap, arith, inl, inr, ◌∙◌, sym, subst, length-append}
use Rattle.std.specs.Prelude.{ℤ, pos, ◌+ℤ◌, ◌-ℤ◌, ◌==◌, ◌&&◌}
use Rattle.std.specs.Option.{option_map}
use Rattle.std.proofs.lemmas.Bool.{cases_eq, cases_Bool, ne_eqb, false≢true}
use Rattle.std.proofs.lemmas.Option.{none-some, same_Some}
use Rattle.subsetter_cffdata.specs.Reals.Decimals.{Decimal, IsPlain, HasText, is_zero, digits, after_digits, sign, signed, fraction, number, trimmed, stripped, decimal, exponent, unsigned_real, real_of, text_limit, real_text}
use Rattle.subsetter_cffdata.specs.Numerals.Values.{thousandfold}
use Rattle.subsetter_cffdata.proofs.RealsLaws.PlainDigits.{digits_twice, digits_both, kept_plain, plain_is, nothing_plain}
use Rattle.subsetter_cffdata.proofs.RealsLaws.RealTexts.{has_text}
use Rattle.subsetter_cffdata.proofs.RealsLaws.Powers.{length-digits, length-fraction, length-sign}
use Rattle.subsetter_cffdata.proofs.Options.{unless}

-- digits that write a decimal
pub record PlainDecimal (d : Decimal) : Type 0 where
  pub negative : Bool
  pub ds : List ℕ
  pub power : ℤ
  pub plain : IsPlain negative ds power
  pub short : length ds ≤ 64
  pub is : record { mantissa = signed negative (number ds); power = power } ≡ d

pub text_fits : (d : Decimal) → PlainDecimal d → length (real_text d) ≤ 64 → HasText d
text_fits d p le = subst HasText p.is (has_text p.negative p.ds p.power p.plain p.short (subst (λ e. length (real_text e) ≤ 64) (sym p.is) le))

nothing : IsPlain false [] (pos 0)
nothing = record { digits_only = refl; front = refl; back = refl; no_sign = λ e. refl; no_power = λ e. refl }

shorter : (b : Bool) (d : ℕ) (kept ds : List ℕ) → length kept ≤ length ds → length (cond b [] (d ∷ kept)) ≤ suc (length ds)
shorter true d kept ds le = omega arith
shorter false d kept ds le = omega arith

length-trimmed : (ds : List ℕ) → length (trimmed ds) ≤ length ds
length-trimmed [] = omega arith
length-trimmed (d ∷ ds) = shorter ((d == 0) && (length (trimmed ds) == 0)) d (trimmed ds) ds (length-trimmed ds)

length-stripped : (ds : List ℕ) → length (stripped ds) ≤ length ds
length-stripped [] = omega arith
length-stripped (d ∷ ds) =
    elim (cases_eq d 0) [
      | inl none ↦ rw none (omega (arith, length-stripped ds))
      | inr other ↦ rw (ne_eqb d 0 other) (omega arith)
    ]

length-kept : (ds : List ℕ) → length (stripped (trimmed ds)) ≤ length ds
length-kept ds = omega (arith, length-stripped (trimmed ds), length-trimmed ds)

not_none : (negative : Bool) (ds : List ℕ) (power : ℤ) (d : Decimal) → length ds ≡ 0 → record { mantissa = signed negative (number ds); power = power } ≡ d → is_zero d.mantissa ≡ false → ⊥
not_none true [] power d e is some = false≢true (sym some ∙ ap (λ (x : Decimal). is_zero x.mantissa) (sym is))
not_none false [] power d e is some = false≢true (sym some ∙ ap (λ (x : Decimal). is_zero x.mantissa) (sym is))
not_none negative (c ∷ ds) power d e is some = absurd (omega arith)

-- what a text means is such a decimal
pub decimal_plain : (negative : Bool) (ds : List ℕ) (power : ℤ) → digits ds ≡ ds → length ds ≤ 64 → PlainDecimal (decimal negative ds power)
decimal_plain negative ds power only le =
    elim (cases_eq (length (stripped (trimmed ds))) 0) [
      | inl none ↦ record { negative = false; ds = []; power = pos 0; plain = nothing; short = omega arith; is = nothing_plain negative ds power none }
      | inr some ↦ (let p = power +ℤ pos (length ds - length (trimmed ds)) in
          record {
            negative = negative;
            ds = stripped (trimmed ds);
            power = p;
            plain = kept_plain negative ds p only (omega arith);
            short = omega (arith, le, length-kept ds);
            is = plain_is negative ds power p only (omega arith) refl;
          })
    ]

-- a thousand times as great
pub thousandfold_plain : (d : Decimal) → PlainDecimal d → PlainDecimal (thousandfold d)
thousandfold_plain d p =
    elim (cases_Bool (is_zero d.mantissa)) [
      | inl none ↦ rw none p
      | inr some ↦ rw some (record {
        negative = p.negative;
        ds = p.ds;
        power = d.power +ℤ pos 3;
        plain = record { digits_only = p.plain.digits_only; front = p.plain.front; back = p.plain.back; no_sign = p.plain.no_sign; no_power = λ e. absurd (not_none p.negative p.ds p.power d e p.is some) };
        short = p.short;
        is = ap (λ (x : Decimal). record { mantissa = x.mantissa; power = d.power +ℤ pos 3 }) p.is;
      })
    ]

-- ---- a real that was read
fraction_digits : (text : List ℕ) → digits (fraction text).0 ≡ (fraction text).0
fraction_digits [] = refl
fraction_digits (c ∷ text) =
    elim (cases_eq c 10) [
      | inl is ↦ rw is (digits_twice text)
      | inr other ↦ rw (ne_eqb c 10 other) refl
    ]

mapped : (f : ℤ → Decimal) (o : Option ℤ) (d : Decimal) → option_map f o ≡ Some d → (z : ℤ) × (f z ≡ d)
mapped f None d e = absurd (none-some d e)
mapped f (Some z) d e = (z, same_Some _ _ e)

unsigned_plain : (negative : Bool) (text : List ℕ) (d : Decimal) → length text ≤ 64 → unsigned_real negative text ≡ Some d → PlainDecimal d
unfolding unsigned_real
unsigned_plain negative text d le e =
    let f = fraction (after_digits text) in
    let ds = digits text ++ f.0 in
    let u = unless (eqb (length (digits text) + length f.0) 0) _ d e in
    let m = mapped (λ z. decimal negative ds (z -ℤ pos (length f.0))) (exponent f.1) d u.1 in
    subst PlainDecimal m.1 (decimal_plain negative ds (m.0 -ℤ pos (length f.0)) (digits_both (digits text) f.0 (digits_twice text) (fraction_digits (after_digits text)))
    (omega (arith, le, length-append (digits text) f.0, length-digits text, length-fraction (after_digits text))))

pub real_plain : (text : List ℕ) (d : Decimal) → length text ≤ text_limit → real_of text ≡ Some d → PlainDecimal d
unfolding real_of
real_plain text d short e = unsigned_plain (sign text).0 (sign text).1 d (omega (arith, short, length-sign text)) e
