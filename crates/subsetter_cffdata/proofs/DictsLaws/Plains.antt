-- Entries that stay as written: what is passed is a number of the entry, and the whole is written for its operator and numbers.
use Rattle.std.proofs.Common.{◌≡◌, ◌≢◌, ℕ, zero, suc, ◌+◌, ◌-◌, ◌*◌, ◌/◌, ◌%◌, ◌<◌, ◌≤◌, Bool, true, false, List, [], ◌∷◌, ◌++◌, map, length, take, drop, Option, Some, None, refl, ap, sym, ◌∙◌, subst, arith, inl, inr, append_assoc, length-append, length-drop, pos, negsuc, FitsSigned, w16, w32, nat_lt, nat_le, ◌==◌, if◌then◌else◌}
use Rattle.std.specs.Int.{cast_unsigned, to_be_bytes}
use Rattle.std.specs.Option.{option_map_or}
use Rattle.std.proofs.lemmas.Int.{ints}
use Rattle.std.proofs.lemmas.Bool.{cases_lt, cases_Bool, or_cases, lt-ltb, le-ltb, ltb-true, ne_eqb, eqb-true, eqb-false}
use Rattle.std.proofs.lemmas.Bool.Decides.{nat_tests}
use Rattle.std.proofs.lemmas.List.{take_at, take_all, drop_at, drop-drop, length-map}
use Rattle.std.proofs.lemmas.Option.{none-some}
use Rattle.subsetter_cffdata.specs.Numerals.Numbers.{Number, Integer, integer}
use Rattle.subsetter_cffdata.specs.Dicts.Dict.{Plain, value, entry_bytes, entry_at, is_operator, operand_limit, IsOperator}
use Rattle.subsetter_cffdata.specs.Dicts.Operands.{operands_at}
use Rattle.subsetter_cffdata.specs.Dicts.Plain.{after_word, after_second, after_number, marked_operator, operator_at, plain_in, plain_at, plain_entry, IsNumberAndRest, IsEntryAndRest}
use Rattle.subsetter_cffdata.specs.Dicts.Tokens.{operator_part}
use Rattle.subsetter_cffdata.proofs.DictsLaws.Dicts.{entry_again}
use Rattle.subsetter_cffdata.proofs.DictsLaws.Entries.{entry_shorter}

-- ---- the forms
one_above : (n b : ℕ) → n < 108 → n + 139 ≡ b → integer (pos n) ≡ b ∷ []
unfolding integer
one_above n b low e = rw (lt-ltb n 108 low) (ap (λ (k : ℕ). k ∷ []) e)

one_below : (m b : ℕ) → m + 1 < 108 → 139 - (m + 1) ≡ b → integer (negsuc m) ≡ b ∷ []
unfolding integer
one_below m b low e = rw (lt-ltb (m + 1) 108 low) (ap (λ (k : ℕ). k ∷ []) e)

two_above : (n b c : ℕ) → 108 ≤ n → n < 1132 → (n - 108) / 256 + 247 ≡ b → (n - 108) % 256 ≡ c → integer (pos n) ≡ b ∷ c ∷ []
unfolding integer
two_above n b c low high e f = rw (le-ltb n 108 low, lt-ltb n 1132 high) (λ i. e i ∷ f i ∷ [])

two_below : (m b c : ℕ) → 108 ≤ m + 1 → m + 1 < 1132 → (m + 1 - 108) / 256 + 251 ≡ b → (m + 1 - 108) % 256 ≡ c → integer (negsuc m) ≡ b ∷ c ∷ []
unfolding integer
two_below m b c low high e f = rw (le-ltb (m + 1) 108 low, lt-ltb (m + 1) 1132 high) (λ i. e i ∷ f i ∷ [])

word_bytes : (n h l : ℕ) → h < 256 → l < 256 → n ≡ h * 256 + l → to_be_bytes w16 n ≡ h ∷ l ∷ []
word_bytes n h l h' l' e =
    let high : n / 256 % 256 ≡ h = omega arith in
    let low : n % 256 ≡ l = omega arith in
    λ i. high i ∷ low i ∷ []

word_above : (n h l : ℕ) → h < 256 → l < 256 → n ≡ h * 256 + l → 1132 ≤ n → n < 32768 → integer (pos n) ≡ 28 ∷ h ∷ l ∷ []
unfolding integer
word_above n h l h' l' e low high = rw (le-ltb n 108 (omega arith), le-ltb n 1132 low, lt-ltb n 32768 high) (ap (λ (t : List ℕ). 28 ∷ t) (word_bytes n h l h' l' e))

word_below : (m n h l : ℕ) → h < 256 → l < 256 → n ≡ h * 256 + l → m + n ≡ 65535 → 32768 ≤ n → n ≤ 64404 → integer (negsuc m) ≡ 28 ∷ h ∷ l ∷ []
unfolding integer
word_below m n h l h' l' e s low high =
    let bits : cast_unsigned w16 (negsuc m) ≡ n = omega (arith, ints) in
    rw (le-ltb (m + 1) 108 (omega arith), le-ltb (m + 1) 1132 (omega arith), lt-ltb m 32768 (omega arith)) (ap (λ (t : List ℕ). 28 ∷ t) (ap (to_be_bytes w16) bits ∙ word_bytes n h l h' l' e))

-- ---- numbers
fits_above : (n : ℕ) → n < 65536 → FitsSigned w32 (pos n)
fits_above n small = record { sfits = omega arith }

fits_below : (m : ℕ) → m < 65536 → FitsSigned w32 (negsuc m)
fits_below m small = record { sfits = omega arith }

number_one : (b : ℕ) (rest : List ℕ) → 32 ≤ b → b < 247 → IsNumberAndRest (b ∷ rest) rest
number_one b rest low high =
    elim (cases_lt b 139) [
      | inl below ↦ record { value = negsuc (138 - b); fits = fits_below (138 - b) (omega arith); is = ap (λ (t : List ℕ). t ++ rest) (sym (one_below (138 - b) b (omega arith) (omega arith))) }
      | inr above ↦ record { value = pos (b - 139); fits = fits_above (b - 139) (omega arith); is = ap (λ (t : List ℕ). t ++ rest) (sym (one_above (b - 139) b (omega arith) (omega arith))) }
    ]

number_two : (b c : ℕ) (rest : List ℕ) → 247 ≤ b → b < 251 → c < 256 → IsNumberAndRest (b ∷ c ∷ rest) rest
number_two b c rest low high small =
    let n = (b - 247) * 256 + c + 108 in
    record { value = pos n; fits = fits_above n (omega arith); is = ap (λ (t : List ℕ). t ++ rest) (sym (two_above n b c (omega arith) (omega arith) (omega arith) (omega arith))) }

number_two_below : (b c : ℕ) (rest : List ℕ) → 251 ≤ b → b < 255 → c < 256 → IsNumberAndRest (b ∷ c ∷ rest) rest
number_two_below b c rest low high small =
    let m = (b - 251) * 256 + c + 107 in
    record { value = negsuc m; fits = fits_below m (omega arith); is = ap (λ (t : List ℕ). t ++ rest) (sym (two_below m b c (omega arith) (omega arith) (omega arith) (omega arith))) }

number_word : (h l : ℕ) (rest : List ℕ) → l < 256 → 1132 ≤ h * 256 + l → h * 256 + l ≤ 64404 → IsNumberAndRest (28 ∷ h ∷ l ∷ rest) rest
number_word h l rest small low high =
    let n = h * 256 + l in
    let byte : h < 256 = omega arith in
    elim (cases_lt n 32768) [
      | inl above ↦ record { value = pos n; fits = fits_above n (omega arith); is = ap (λ (t : List ℕ). t ++ rest) (sym (word_above n h l byte small refl low above)) }
      | inr below ↦ record { value = negsuc (65535 - n); fits = fits_below (65535 - n) (omega arith); is = ap (λ (t : List ℕ). t ++ rest) (sym (word_below (65535 - n) n h l byte small refl (omega arith) below high)) }
    ]

abbrev Stands : List ℕ → Option (List ℕ) → Type 0
Stands bytes None = Unit {0}
Stands bytes (Some rest) = IsNumberAndRest bytes rest

by_test : (bytes : List ℕ) (b : Bool) (x y : Option (List ℕ)) → (b ≡ true → Stands bytes x) → (b ≡ false → Stands bytes y) → Stands bytes (if b then x else y)
by_test bytes true x y f g = f refl
by_test bytes false x y f g = g refl

word_stands : (rest : List ℕ) → Stands (28 ∷ rest) (after_word rest)
word_stands [] = tt
word_stands (h ∷ []) = tt
word_stands (h ∷ l ∷ rest) =
    by_test _ (nat_le 256 l) _ _ (λ _. tt)
    (λ f. let small : l < 256 = grind (arith, nat_tests) in
    by_test _ (nat_lt (h * 256 + l) 1132) _ _ (λ _. tt)
    (λ g. let low : 1132 ≤ h * 256 + l = grind (arith, nat_tests) in
    by_test _ (nat_lt 64404 (h * 256 + l)) _ _ (λ _. tt)
    (λ k. let high : h * 256 + l ≤ 64404 = grind (arith, nat_tests) in number_word h l rest small low high)))

second_stands : (b : ℕ) (rest : List ℕ) → 247 ≤ b → b < 255 → Stands (b ∷ rest) (after_second rest)
second_stands b [] low high = tt
second_stands b (c ∷ rest) low high =
    by_test _ (nat_le 256 c) _ _ (λ _. tt)
    (λ f. let small : c < 256 = grind (arith, nat_tests) in
    elim (cases_lt b 251) [ inl above ↦ number_two b c rest low above small | inr below ↦ number_two_below b c rest below high small ])

number_stands : (bytes : List ℕ) → Stands bytes (after_number bytes)
unfolding after_number
number_stands [] = tt
number_stands (first ∷ rest) =
    by_test _ (first == 28) _ _
    (λ e. let is : first ≡ 28 = eqb-true first 28 e in subst (λ (b : ℕ). Stands (b ∷ rest) (after_word rest)) (sym is) (word_stands rest))
    (λ _. by_test _ (nat_lt first 32) _ _ (λ _. tt)
    (λ f. let low : 32 ≤ first = grind (arith, nat_tests) in
    by_test _ (nat_lt first 247) _ _
    (λ g. let high : first < 247 = grind (arith, nat_tests) in number_one first rest low high)
    (λ g. let middle : 247 ≤ first = grind (arith, nat_tests) in
    by_test _ (nat_lt first 255) _ _
    (λ k. let high : first < 255 = grind (arith, nat_tests) in second_stands first rest middle high)
    (λ _. tt))))

number_here : (bytes rest : List ℕ) → after_number bytes ≡ Some rest → IsNumberAndRest bytes rest
number_here bytes rest e = subst (Stands bytes) e (number_stands bytes)

-- ---- operators
abbrev StandsOperator : List ℕ → Option (List ℕ × List ℕ) → Type 0
StandsOperator bytes None = Unit {0}
StandsOperator bytes (Some o) = IsOperator o.0 × (bytes ≡ o.0 ++ o.1)

by_operator : (bytes : List ℕ) (b : Bool) (x y : Option (List ℕ × List ℕ)) → (b ≡ true → StandsOperator bytes x) → (b ≡ false → StandsOperator bytes y) → StandsOperator bytes (if b then x else y)
by_operator bytes true x y f g = f refl
by_operator bytes false x y f g = g refl

marked_stands : (b : ℕ) (rest : List ℕ) → b ≡ 12 → StandsOperator (b ∷ rest) (marked_operator rest)
marked_stands b [] is = tt
marked_stands b (c ∷ rest) is = (refl, ap (λ (k : ℕ). k ∷ c ∷ rest) is)

operator_stands : (bytes : List ℕ) → StandsOperator bytes (operator_at bytes)
unfolding operator_at
operator_stands [] = tt
operator_stands (b ∷ rest) =
    by_operator _ (is_operator b) _ _
    (λ begins. by_operator _ (b == 12) _ _ (λ e. marked_stands b rest (eqb-true b 12 e)) (λ other. ((begins, eqb-false b 12 other), refl)))
    (λ _. tt)

-- an operator begins no number
no_number_low : (first : ℕ) (rest : List ℕ) → first ≢ 28 → first < 32 → after_number (first ∷ rest) ≡ None
unfolding after_number
no_number_low first rest ne low = rw (ne_eqb first 28 ne, lt-ltb first 32 low) refl

no_number_high : (first : ℕ) (rest : List ℕ) → 255 ≤ first → after_number (first ∷ rest) ≡ None
unfolding after_number
no_number_high first rest high = rw (ne_eqb first 28 (λ e. omega arith), le-ltb first 32 (omega arith), le-ltb first 247 (omega arith), le-ltb first 255 high) refl

no_number : (first : ℕ) (rest : List ℕ) → is_operator first ≡ true → after_number (first ∷ rest) ≡ None
no_number first rest h =
    elim (or_cases _ _ h) [
      | inl low ↦ (let lt : first < 28 = ltb-true first 28 low in no_number_low first rest (λ e. omega arith) (omega arith))
      | inr other ↦ elim (or_cases _ _ other) [
        | inl e31 ↦ (let is : first ≡ 31 = eqb-true first 31 e31 in no_number_low first rest (λ e. omega arith) (omega arith))
        | inr e255 ↦ (let is : first ≡ 255 = eqb-true first 255 e255 in no_number_high first rest (omega arith))
      ]
    ]

no_operator : (bytes more : List ℕ) → after_number bytes ≡ Some more → operator_at bytes ≡ None
unfolding operator_at
no_operator [] more e = refl
no_operator (first ∷ rest) more e =
    elim (cases_Bool (is_operator first)) [
      | inl begins ↦ absurd (none-some more (sym (no_number first rest begins) ∙ e))
      | inr other ↦ rw other refl
    ]

-- ---- as many numbers as may be
pub plain_full : (n : ℕ) (bytes more : List ℕ) → n ≡ 0 → after_number bytes ≡ Some more → plain_in n bytes ≡ None
unfolding plain_in
plain_full n bytes more z e = ap (λ (k : ℕ). plain_in k bytes) z ∙ no_operator bytes more e

pub plain_more : (n m : ℕ) (bytes more : List ℕ) → m ≡ suc n → after_number bytes ≡ Some more → plain_in m bytes ≡ plain_in n more
unfolding plain_in
plain_more n m bytes more s e = ap (λ (k : ℕ). plain_in k bytes) s ∙ ap (λ (o : Option (List ℕ)). option_map_or (plain_in n) o (operator_at bytes)) e

pub plain_end : (n : ℕ) (bytes : List ℕ) → after_number bytes ≡ None → plain_in n bytes ≡ operator_at bytes
unfolding plain_in
plain_end zero bytes e = refl
plain_end (suc n) bytes e = ap (λ (o : Option (List ℕ)). option_map_or (plain_in n) o (operator_at bytes)) e

-- ---- entries
ends_here : (n : ℕ) (bytes operator rest : List ℕ) → operator_at bytes ≡ Some (operator, rest) → IsEntryAndRest n operator bytes rest
ends_here n bytes operator rest e =
    let o = subst (StandsOperator bytes) e (operator_stands bytes) in
    record { numbers = []; operator_fits = o.0; operands_fit = tt; accepted = refl; few = omega arith; is = o.1 }

with_number : (n : ℕ) (operator bytes more rest : List ℕ) → IsNumberAndRest bytes more → IsEntryAndRest n operator more rest → IsEntryAndRest (suc n) operator bytes rest
with_number n operator bytes more rest x e =
    let regrouped : entry_bytes (plain_entry operator (Integer x.value ∷ e.numbers)) ++ rest ≡ integer x.value ++ (entry_bytes (plain_entry operator e.numbers) ++ rest) = simp append_assoc in
    record {
      numbers = Integer x.value ∷ e.numbers;
      operator_fits = e.operator_fits;
      operands_fit = (x.fits, e.operands_fit);
      accepted = e.accepted;
      few = omega (arith, e.few);
      is = x.is ∙ ap (λ (t : List ℕ). integer x.value ++ t) e.is ∙ sym regrouped;
    }

by_number : (n : ℕ) (bytes operator rest : List ℕ) (o : Option (List ℕ)) → after_number bytes ≡ o → option_map_or (plain_in n) o (operator_at bytes) ≡ Some (operator, rest)
    → ((more : List ℕ) → plain_in n more ≡ Some (operator, rest) → IsEntryAndRest n operator more rest) → IsEntryAndRest (suc n) operator bytes rest
by_number n bytes operator rest None here e others = ends_here (suc n) bytes operator rest e
by_number n bytes operator rest (Some more) here e others = with_number n operator bytes more rest (number_here bytes more here) (others more e)

pub entry_stands : (n : ℕ) (bytes operator rest : List ℕ) → plain_in n bytes ≡ Some (operator, rest) → IsEntryAndRest n operator bytes rest
unfolding plain_in
entry_stands zero bytes operator rest e = ends_here zero bytes operator rest e
entry_stands (suc n) bytes operator rest e = by_number n bytes operator rest (after_number bytes) refl e (λ more f. entry_stands n more operator rest f)

-- it is read so
values_are : (xs : List Number) → map value (map Plain xs) ≡ xs
values_are [] = refl
values_are (x ∷ xs) = ap (λ (ys : List Number). x ∷ ys) (values_are xs)

pub entry_is : (operator bytes rest : List ℕ) (e : IsEntryAndRest operand_limit operator bytes rest) → entry_at bytes ≡ Some (record { operator = operator; operands = e.numbers }, rest)
entry_is operator bytes rest e =
    ap entry_at e.is
    ∙ entry_again (plain_entry operator e.numbers) (record { operator = e.operator_fits; operands = e.operands_fit; few = omega (arith, length-map e.numbers Plain, e.few) }) rest
    ∙ ap (λ (xs : List Number). Some (record { operator = operator; operands = xs }, rest)) (values_are e.numbers)

pub plain_operator : (bytes operator rest : List ℕ) → plain_at bytes ≡ Some (operator, rest) → operator_part (entry_at bytes) ≡ Some (operator, rest)
plain_operator bytes operator rest e = ap operator_part (entry_is operator bytes rest (entry_stands operand_limit bytes operator rest e))

pub plain_operands : (operator bytes rest : List ℕ) (e : IsEntryAndRest operand_limit operator bytes rest) → Some e.numbers ≡ operands_at operand_limit bytes
unfolding operands_at
plain_operands operator bytes rest e = rw (entry_is operator bytes rest e, take_all operand_limit e.numbers e.few) refl

-- ---- where it ends
past_front : (bytes front rest : List ℕ) → bytes ≡ front ++ rest → drop (length bytes - length rest) bytes ≡ rest
past_front bytes front rest e = rw e (drop_at front rest (length (front ++ rest) - length rest) (omega (arith, length-append front rest)))

pub front_of : (bytes front rest : List ℕ) → bytes ≡ front ++ rest → take (length bytes - length rest) bytes ≡ front
front_of bytes front rest e = rw e (take_at front rest (length (front ++ rest) - length rest) (omega (arith, length-append front rest)))

pub plain_shorter : (bytes operator rest : List ℕ) → plain_at bytes ≡ Some (operator, rest) → length rest < length bytes
plain_shorter bytes operator rest e = entry_shorter bytes _ (entry_is operator bytes rest (entry_stands operand_limit bytes operator rest e))

pub record PlainEnd (bytes rest : List ℕ) : Type 0 where
  pub within : length rest ≤ length bytes
  pub there : drop (length bytes - length rest) bytes ≡ rest

pub plain_end_at : (bytes operator rest : List ℕ) (at : ℕ) → plain_at (drop at bytes) ≡ Some (operator, rest) → PlainEnd bytes rest
plain_end_at bytes operator rest at e =
    let left = drop at bytes in
    let less = plain_shorter left operator rest e in
    let len = length-drop at bytes in
    let place : length bytes - length rest ≡ at + (length left - length rest) = omega arith in
    let is = entry_stands operand_limit left operator rest e in
    record {
      within = omega arith;
      there = ap (λ (n : ℕ). drop n bytes) place ∙ sym (drop-drop (length left - length rest) at bytes) ∙ past_front left (entry_bytes (plain_entry operator is.numbers)) rest is.is;
    }
