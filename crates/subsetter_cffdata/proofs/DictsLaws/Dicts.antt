-- A DICT that was written is read again, entry by entry.
use Rattle.std.proofs.Common.{◌≡◌, ◌≢◌, ℕ, zero, suc, ◌+◌, ◌-◌, ◌<◌, ◌≤◌, true, false, List, [], ◌∷◌, ◌++◌, map, length, Option, Some, None, refl, ap, arith, inl, inr, ◌⊎◌, ◌∙◌, sym, append_assoc, length-append}
use Rattle.std.specs.Prelude.{ℤ, pos}
use Rattle.std.specs.List.{flat_map, AllByRecursion}
use Rattle.std.proofs.lemmas.Bool.{lt-ltb, le-ltb, ne_eqb, cases_eq, cases_Bool, or_cases, ltb-true, eqb-true}
use Rattle.std.proofs.lemmas.Option.{none-some}
use Rattle.std.proofs.lemmas.List.{take_all, length-map}
use Rattle.subsetter_cffdata.specs.Bytes.{ReadAgain}
use Rattle.subsetter_base.specs.Bytes.{byte}
use Rattle.subsetter_cffdata.specs.Reals.Decimals.{Decimal, real_at, real_text, packed}
use Rattle.subsetter_cffdata.specs.Numerals.Numbers.{Number, Integer, Real, Fixed, integer, offset, short_integer, integer_from, integer_at, dict_number_from, dict_number_at, number, FitsDict}
use Rattle.subsetter_cffdata.specs.Dicts.Dict.{Entry, is_operator, entry_in, entry_at, limited, entries_in, entries, operand_limit, Written, Plain, Long, operand, value, NewEntry, entry_bytes, dict, meaning, IsOperator, FitsOperand, FitsNewEntry}
use Rattle.subsetter_cffdata.proofs.NumeralsLaws.Cards.{byte_again}
use Rattle.subsetter_cffdata.proofs.NumeralsLaws.Integers.{integer_again, offset_again}
use Rattle.subsetter_cffdata.proofs.RealsLaws.Reals.{real_again}

-- ---- a number's first byte begins no operator
no_short : (b : ℕ) (bytes : List ℕ) → (b < 32) ⊎ (255 ≤ b) → short_integer b bytes ≡ None
unfolding short_integer
no_short b bytes (inl low) = rw (lt-ltb b 32 low) refl
no_short b bytes (inr high) = rw (le-ltb b 32 (omega arith), le-ltb b 247 (omega arith), le-ltb b 251 (omega arith), le-ltb b 255 high) refl

no_number : (b : ℕ) (bytes : List ℕ) → b ≢ 28 → b ≢ 29 → b ≢ 30 → (b < 32) ⊎ (255 ≤ b) → dict_number_from b bytes ≡ None
unfolding dict_number_from integer_from
no_number b bytes n28 n29 n30 range = rw (ne_eqb b 30 n30, ne_eqb b 28 n28, ne_eqb b 29 n29, no_short b bytes range) refl

operator_is_no_number : (b : ℕ) (bytes : List ℕ) → is_operator b ≡ true → dict_number_from b bytes ≡ None
operator_is_no_number b bytes h =
    elim (or_cases _ _ h) [
      | inl low ↦ (let lt : b < 28 = ltb-true b 28 low in no_number b bytes (λ e. omega arith) (λ e. omega arith) (λ e. omega arith) (inl (omega arith)))
      | inr other ↦ elim (or_cases _ _ other) [
        | inl e31 ↦ (let is : b ≡ 31 = eqb-true b 31 e31 in no_number b bytes (λ e. omega arith) (λ e. omega arith) (λ e. omega arith) (inl (omega arith)))
        | inr e255 ↦ (let is : b ≡ 255 = eqb-true b 255 e255 in no_number b bytes (λ e. omega arith) (λ e. omega arith) (λ e. omega arith) (inr (omega arith)))
      ]
    ]

pub number_is_no_operator : (b : ℕ) (bytes : List ℕ) (x : Number × List ℕ) → dict_number_from b bytes ≡ Some x → is_operator b ≡ false
number_is_no_operator b bytes x e =
    elim (cases_Bool (is_operator b)) [
      | inl begins ↦ absurd (none-some x (sym (operator_is_no_number b bytes begins) ∙ e))
      | inr other ↦ other
    ]

-- ---- numbers
real_number : (d : Decimal) (bytes rest : List ℕ) → real_at bytes ≡ Some (d, rest) → dict_number_at (30 ∷ bytes) ≡ Some (Real d, rest)
unfolding byte dict_number_from
real_number d bytes rest e = rw e refl

no_integer_30 : (bytes : List ℕ) → integer_from 30 bytes ≡ None
unfolding integer_from short_integer
no_integer_30 bytes = refl

integer_number : (z : ℤ) (bytes rest : List ℕ) → integer_at bytes ≡ Some (z, rest) → dict_number_at bytes ≡ Some (Integer z, rest)
unfolding byte dict_number_from
integer_number z [] rest e = absurd (none-some (z, rest) e)
integer_number z (b ∷ bytes) rest e =
    elim (cases_eq b 30) [
      | inl is ↦ absurd (none-some (z, rest) (sym (no_integer_30 bytes) ∙ ap (λ (n : ℕ). integer_from n bytes) (sym is) ∙ e))
      | inr other ↦ rw (ne_eqb b 30 other, e) refl
    ]

pub number_again : (x : Number) → FitsDict x → ReadAgain dict_number_at (number x) x
number_again (Integer z) fits rest = integer_number z (integer z ++ rest) rest (integer_again z fits rest)
number_again (Real d) fits rest = real_number d (packed (real_text d) ++ rest) rest (real_again d fits rest)
number_again (Fixed k) fits rest = absurd fits

operand_again : (x : Written) → FitsOperand x → ReadAgain dict_number_at (operand x) (value x)
operand_again (Plain x) fits rest = number_again x fits rest
operand_again (Long n) fits rest = integer_number (pos n) (offset n ++ rest) rest (offset_again n fits rest)

-- ---- entries
with_operand : Number → Entry × List ℕ → Option (Entry × List ℕ)
with_operand x e = Some (record { operator = e.0.operator; operands = x ∷ e.0.operands }, e.1)

-- one operand more
operand_step : (steps : ℕ) (bytes tail rest : List ℕ) (x : Number) (e : Entry) → dict_number_at bytes ≡ Some (x, tail) → entry_in steps tail ≡ Some (e, rest)
    → entry_in (suc steps) bytes ≡ Some (record { operator = e.operator; operands = x ∷ e.operands }, rest)
unfolding byte entry_in
operand_step steps [] tail rest x e read others = absurd (none-some (x, tail) read)
operand_step steps (b ∷ bytes) tail rest x e read others = rw (number_is_no_operator b bytes (x, tail) read, read, others) refl

operator_step : (steps : ℕ) (operator rest : List ℕ) → IsOperator operator → entry_in (suc steps) (operator ++ rest) ≡ Some (record { operator = operator; operands = [] }, rest)
unfolding entry_in
operator_step steps [] rest is = absurd is
operator_step steps (b ∷ []) rest is = rw (is.0, ne_eqb b 12 is.1) refl
operator_step steps (b ∷ c ∷ []) rest is = rw (is, byte_again c rest) refl
operator_step steps (b ∷ c ∷ d ∷ more) rest is = absurd is

pub entry_in_again : (operands : List Written) (operator : List ℕ) (steps : ℕ) (rest : List ℕ) → AllByRecursion FitsOperand operands → IsOperator operator → length operands ≤ steps
    → entry_in (suc steps) ((flat_map operand operands ++ operator) ++ rest) ≡ Some (record { operator = operator; operands = map value operands }, rest)
entry_in_again [] operator steps rest fits is le = operator_step steps operator rest is
entry_in_again (x ∷ operands) operator zero rest fits is le = absurd (omega arith)
entry_in_again (x ∷ operands) operator (suc steps) rest fits is le =
    let regrouped : (flat_map operand (x ∷ operands) ++ operator) ++ rest ≡ operand x ++ ((flat_map operand operands ++ operator) ++ rest) = simp append_assoc in
    ap (entry_in (suc (suc steps))) regrouped
    ∙ operand_step (suc steps) _ _ rest (value x) (record { operator = operator; operands = map value operands }) (operand_again x fits.0 ((flat_map operand operands ++ operator) ++ rest)) (entry_in_again operands operator steps rest fits.1 is (omega arith))

-- each operand and each operator has a byte
has_byte : (text : List ℕ) (x : Number) → dict_number_at (text ++ []) ≡ Some (x, []) → 1 ≤ length text
unfolding byte
has_byte [] x e = absurd (none-some (x, []) e)
has_byte (b ∷ text) x e = omega arith

operands_have_bytes : (operands : List Written) → AllByRecursion FitsOperand operands → length operands ≤ length (flat_map operand operands)
operands_have_bytes [] fits = omega arith
operands_have_bytes (x ∷ operands) fits = omega (arith, length-append (operand x) (flat_map operand operands), has_byte (operand x) (value x) (operand_again x fits.0 []), operands_have_bytes operands fits.1)

operator_has_byte : (operator : List ℕ) → IsOperator operator → 1 ≤ length operator
operator_has_byte [] is = absurd is
operator_has_byte (b ∷ more) is = omega arith

entry_has_byte : (l : NewEntry) → FitsNewEntry l → length l.operands + 1 ≤ length (entry_bytes l)
entry_has_byte l fits = omega (arith, length-append (flat_map operand l.operands) l.operator, operands_have_bytes l.operands fits.operands, operator_has_byte l.operator fits.operator)

-- an entry is read again, whatever follows
pub entry_again : (l : NewEntry) → FitsNewEntry l → ReadAgain entry_at (entry_bytes l) (meaning l)
unfolding entry_at
entry_again l fits rest =
    let l1 = length-append (entry_bytes l) rest in
    let l2 = entry_has_byte l fits in
    let steps : length (entry_bytes l ++ rest) ≡ suc (length (entry_bytes l ++ rest) - 1) = omega arith in
    ap (λ (n : ℕ). entry_in n (entry_bytes l ++ rest)) steps ∙ entry_in_again l.operands l.operator (length (entry_bytes l ++ rest) - 1) rest fits.operands fits.operator (omega arith)

-- ---- a whole DICT
kept_all : (l : NewEntry) → FitsNewEntry l → limited (meaning l) ≡ meaning l
kept_all l fits = ap (λ (xs : List Number). record { operator = l.operator; operands = xs }) (take_all operand_limit (map value l.operands) (omega (arith, length-map l.operands value, fits.few)))

no_entries : (steps : ℕ) → entries_in steps [] ≡ []
unfolding entries_in entry_at entry_in
no_entries zero = refl
no_entries (suc steps) = refl

pub entries_in_again : (ls : List NewEntry) → AllByRecursion FitsNewEntry ls → (steps : ℕ) → length ls ≤ steps → entries_in steps (dict ls) ≡ map meaning ls
unfolding entries_in
entries_in_again [] fits steps le = no_entries steps
entries_in_again (l ∷ ls) fits zero le = absurd (omega arith)
entries_in_again (l ∷ ls) fits (suc steps) le =
    rw (entry_again l fits.0 (dict ls), kept_all l fits.0, entries_in_again ls fits.1 steps (omega arith)) refl

entries_have_bytes : (ls : List NewEntry) → AllByRecursion FitsNewEntry ls → length ls ≤ length (dict ls)
entries_have_bytes [] fits = omega arith
entries_have_bytes (l ∷ ls) fits = omega (arith, length-append (entry_bytes l) (dict ls), entry_has_byte l fits.0, entries_have_bytes ls fits.1)

pub dict_again : (ls : List NewEntry) → AllByRecursion FitsNewEntry ls → entries (dict ls) ≡ map meaning ls
unfolding entries
dict_again ls fits = entries_in_again ls fits (length (dict ls)) (entries_have_bytes ls fits)
