-- An integer that was written is read again.
use Rattle.std.proofs.Common.{◌≡◌, ℕ, ◌+◌, ◌-◌, ◌*◌, ◌/◌, ◌%◌, ◌^◌, ◌<◌, ◌≤◌, List, ◌∷◌, ◌++◌, length, Option, Some, refl, ap, arith, inl, inr, ◌∙◌}
use Rattle.std.specs.Prelude.{ℤ, pos, negsuc, neg_ℤ, ◌-ℤ◌, FitsSigned}
use Rattle.std.specs.Int.{w16, w32, cast_unsigned, to_be_bytes}
use Rattle.std.proofs.lemmas.Bool.{cases_lt, lt-ltb, le-ltb, ne_eqb}
use Rattle.std.proofs.lemmas.Int.{ints, to_z-of_z}
use Rattle.subsetter_cffdata.specs.Bytes.{ReadAgain}
use Rattle.subsetter_base.specs.Bytes.{byte}
use Rattle.subsetter_cffdata.specs.Numerals.Numbers.{integer, offset, integer_from, signed16, signed32, integer_at, short_integer}
use Rattle.subsetter_cffdata.proofs.NumeralsLaws.Cards.{byte_again, card_again, be_bytes2, be_bytes4}

-- ---- the forms
pub one_byte : (b : ℕ) (rest : List ℕ) → 32 ≤ b → b < 247 → short_integer b rest ≡ Some (pos b -ℤ pos 139, rest)
unfolding short_integer
one_byte b rest low high = rw (le-ltb b 32 low, lt-ltb b 247 high) refl

pub two_bytes : (b c : ℕ) (rest : List ℕ) → 247 ≤ b → b < 251 → c < 256 → short_integer b (c ∷ rest) ≡ Some (pos ((b - 247) * 256 + c + 108), rest)
unfolding short_integer
two_bytes b c rest low high small = rw (byte_again c rest, le-ltb b 32 (omega arith), le-ltb b 247 low, lt-ltb b 251 high, lt-ltb c 256 small) refl

pub two_bytes_below : (b c : ℕ) (rest : List ℕ) → 251 ≤ b → b < 255 → c < 256 → short_integer b (c ∷ rest) ≡ Some (neg_ℤ (pos ((b - 251) * 256 + c + 108)), rest)
unfolding short_integer
two_bytes_below b c rest low high small = rw (byte_again c rest, le-ltb b 32 (omega arith), le-ltb b 247 (omega arith), le-ltb b 251 low, lt-ltb b 255 high, lt-ltb c 256 small) refl

pub is_short : (b : ℕ) (rest : List ℕ) → 30 ≤ b → integer_from b rest ≡ short_integer b rest
unfolding integer_from
is_short b rest low = rw (ne_eqb b 28 (λ e. omega arith), ne_eqb b 29 (λ e. omega arith)) refl

with_rest : (rest : List ℕ) (y z : ℤ) → y ≡ z → ◌≡◌ {A = Option (ℤ × List ℕ)} (Some (y, rest)) (Some (z, rest))
with_rest rest y z e = ap (λ (k : ℤ). Some (k, rest)) e

-- by 28 and by 29
pub by_28 : (z : ℤ) (rest : List ℕ) → FitsSigned w16 z → integer_from 28 (to_be_bytes w16 (cast_unsigned w16 z) ++ rest) ≡ Some (z, rest)
unfolding integer_from signed16
by_28 z rest fits = rw (card_again 2 (cast_unsigned w16 z) refl (be_bytes2 (cast_unsigned w16 z) (omega (arith, ints))) rest) (with_rest rest _ _ (to_z-of_z w16 z fits))

pub by_29 : (z : ℤ) (rest : List ℕ) → FitsSigned w32 z → integer_from 29 (to_be_bytes w32 (cast_unsigned w32 z) ++ rest) ≡ Some (z, rest)
unfolding integer_from signed32
by_29 z rest fits = rw (card_again 4 (cast_unsigned w32 z) refl (be_bytes4 (cast_unsigned w32 z) (omega (arith, ints))) rest) (with_rest rest _ _ (to_z-of_z w32 z fits))

-- ---- what is written
within : (b : ℕ) (rest : List ℕ) (z : ℤ) → 32 ≤ b → b < 247 → pos b -ℤ pos 139 ≡ z → integer_at (b ∷ rest) ≡ Some (z, rest)
unfolding byte
within b rest z low high e = is_short b rest (omega arith) ∙ one_byte b rest low high ∙ with_rest rest _ _ e

above : (b c : ℕ) (rest : List ℕ) (z : ℤ) → 247 ≤ b → b < 251 → c < 256 → pos ((b - 247) * 256 + c + 108) ≡ z → integer_at (b ∷ c ∷ rest) ≡ Some (z, rest)
unfolding byte
above b c rest z low high small e = is_short b (c ∷ rest) (omega arith) ∙ two_bytes b c rest low high small ∙ with_rest rest _ _ e

below : (b c : ℕ) (rest : List ℕ) (z : ℤ) → 251 ≤ b → b < 255 → c < 256 → neg_ℤ (pos ((b - 251) * 256 + c + 108)) ≡ z → integer_at (b ∷ c ∷ rest) ≡ Some (z, rest)
unfolding byte
below b c rest z low high small e = is_short b (c ∷ rest) (omega arith) ∙ two_bytes_below b c rest low high small ∙ with_rest rest _ _ e

pub integer_again : (z : ℤ) → FitsSigned w32 z → ReadAgain integer_at (integer z) z
unfolding integer byte
integer_again (pos n) fits rest =
    elim (cases_lt n 108) [
      | inl a ↦ rw (lt-ltb n 108 a) (within (n + 139) rest (pos n) (omega arith) (omega arith) (omega (arith, ints)))
      | inr a ↦ rw (le-ltb n 108 a) (elim (cases_lt n 1132) [
        | inl b ↦ rw (lt-ltb n 1132 b) (above ((n - 108) / 256 + 247) ((n - 108) % 256) rest (pos n) (omega arith) (omega arith) (omega arith) (omega (arith, ints)))
        | inr b ↦ rw (le-ltb n 1132 b) (elim (cases_lt n 32768) [
          | inl d ↦ rw (lt-ltb n 32768 d) (by_28 (pos n) rest (record { sfits = d }))
          | inr d ↦ rw (le-ltb n 32768 d) (by_29 (pos n) rest fits)
        ])
      ])
    ]
integer_again (negsuc m) fits rest =
    elim (cases_lt (m + 1) 108) [
      | inl a ↦ rw (lt-ltb (m + 1) 108 a) (within (139 - (m + 1)) rest (negsuc m) (omega arith) (omega arith) (omega (arith, ints)))
      | inr a ↦ rw (le-ltb (m + 1) 108 a) (elim (cases_lt (m + 1) 1132) [
        | inl b ↦ rw (lt-ltb (m + 1) 1132 b) (below ((m + 1 - 108) / 256 + 251) ((m + 1 - 108) % 256) rest (negsuc m) (omega arith) (omega arith) (omega arith) (omega (arith, ints)))
        | inr b ↦ rw (le-ltb (m + 1) 1132 b) (elim (cases_lt m 32768) [
          | inl d ↦ rw (lt-ltb m 32768 d) (by_28 (negsuc m) rest (record { sfits = d }))
          | inr d ↦ rw (le-ltb m 32768 d) (by_29 (negsuc m) rest fits)
        ])
      ])
    ]

-- an offset takes five bytes, whatever it is
pub length-offset : (n : ℕ) → length (offset n) ≡ 5
length-offset n = refl

pub offset_again : (n : ℕ) → n < 2 ^ 31 → ReadAgain integer_at (offset n) (pos n)
unfolding byte
offset_again n small rest = by_29 (pos n) rest (record { sfits = small })
