-- What is found in operators.
use Rattle.std.proofs.Common.{◌≡◌, ℕ, suc, ◌+◌, ◌-◌, ◌*◌, ◌/◌, ◌%◌, ◌^◌, ◌<◌, ◌≤◌, Bool, true, false, List, [], ◌∷◌, ◌++◌, length, map, refl, sym, ap, subst, ◌∙◌, append_assoc, append-nil, length-append, arith}
use Rattle.std.specs.Prelude.{nat_lt, nat_le, not, All, option_to_list, Option, Some, None, codes, decimal, ◌==◌, if◌then◌else◌, ℤ, pos, negsuc, neg_ℤ, unsigned_abs}
use Rattle.std.specs.Fmt.{signed_decimal}
use Rattle.std.specs.Char.{digit_value, is_ascii_digit}
use Rattle.std.specs.List.{flat_map}
use Rattle.std.specs.Option.{option_map}
use Rattle.std.specs.Ordering.{int_eq}
use Rattle.std.specs.Str.{all_ascii_digits}
use Rattle.std.specs.Str.Parse.{digits_value}
use Rattle.std.proofs.lemmas.List.{map-append}
use Rattle.std.proofs.lemmas.List.Concat.{flat_map-append}
use Rattle.std.proofs.lemmas.List.Elements.{All-nil, All-cons, All-head, All-tail, All-append, All-push, All-weaker}
use Rattle.std.proofs.lemmas.List.Splits.{slice_split_at, slice_split_none}
use Rattle.std.proofs.lemmas.Bool.Decides.{Decides-eqb, nat_tests}
use Rattle.std.proofs.lemmas.Str.{digit_value_digit}
use Rattle.std.proofs.lemmas.Fmt.{decimal_is_IsNumeral}
use Rattle.subsetter_base.proofs.Lists.{and_parts}
use Rattle.pdf_text.specs.Cmaps.Cmap.{digit, hex_string, hex_in, word, words}
use Rattle.pdf_text.specs.Metrics.Columns.{integer_in}
use Rattle.pdf_text.specs.Tokens.{tokens}
use Rattle.pdf_text.proofs.TokenLaws.Tokens.{IsDark, dark, first_token, decimal_digits, decimal_some}
use Rattle.pdf_text.proofs.CmapsLaws.CmapLaws.Tokens.{hex_dark}
use Rattle.pdf_text.proofs.CmapsLaws.CmapLaws.Units.{units_read}
use Rattle.pdf_text.proofs.MetricsLaws.ColumnLaws.Text.{integer_read}
use Rattle.pdf_runs.specs.declared.codes.Pair.{Pair}
use Rattle.pdf_operators.specs.declared.operations.OpenArray.{OpenArray}
use Rattle.pdf_operators.specs.Operators.{Act, back, begin, closing, code_of, finish, fraction, further, is_further, is_joined, last, leading, millionths, open_after_code, opening, operators, raise, show, shut, span_text, three_digits, units_of, written}
use Rattle.pdf_operators.specs.Content.{IsWritable, Mark, actual, apart, code, element_by, element_in, ended, fraction_in, is_letter, is_operator, marks_of, number, numbers, parts_in, real_in, rise, said_from, said_in, sized, text_by, tokens_in, unsigned_in}

-- ---- bytes that are no white space and no delimiter

below : (b c : ℕ) → b < c → (b == c) ≡ false
below b c l = grind (arith, nat_tests)

above : (b c : ℕ) → c < b → (b == c) ≡ false
above b c l = grind (arith, nat_tests)

abbrev IsAlone : ℕ → Type 0
IsAlone b = apart b ≡ b ∷ []

alone_by : (b : ℕ) → (b == 91) ≡ false → (b == 93) ≡ false → (b == 60) ≡ false → (b == 47) ≡ false → (b == 62) ≡ false → IsAlone b
alone_by b p q r s t = rw (p, q, r, s, t) refl

low_alone : (b : ℕ) → 47 < b → b < 60 → IsAlone b
low_alone b l h = alone_by b (below b 91 (omega arith)) (below b 93 (omega arith)) (below b 60 h) (above b 47 l) (below b 62 (omega arith))

high_alone : (b : ℕ) → 62 < b → b < 91 → IsAlone b
high_alone b l h = alone_by b (below b 91 h) (below b 93 (omega arith)) (above b 60 (omega arith)) (above b 47 (omega arith)) (above b 62 l)

digit_alone_by : (n : ℕ) (b : Bool) → n < 16 → nat_lt n 10 ≡ b → IsAlone (if b then 48 + n else 55 + n)
digit_alone_by n true l e = let h : n < 10 = grind (arith, nat_tests) in low_alone (48 + n) (omega arith) (omega arith)
digit_alone_by n false l e = let h : 10 ≤ n = grind (arith, nat_tests) in high_alone (55 + n) (omega arith) (omega arith)

digit_alone : (n : ℕ) → n < 16 → IsAlone (digit n)
digit_alone n l = digit_alone_by n (nat_lt n 10) l refl

words_alone : (us : List ℕ) → All IsAlone (words us)
words_alone [] = All-nil IsAlone
words_alone (u ∷ us) =
    let a : ℕ = digit (u / 4096 % 16) in
    let b : ℕ = digit (u / 256 % 16) in
    let c : ℕ = digit (u / 16 % 16) in
    let d : ℕ = digit (u % 16) in
    All-cons IsAlone a (b ∷ c ∷ d ∷ words us) (digit_alone (u / 4096 % 16) (omega arith))
    (All-cons IsAlone b (c ∷ d ∷ words us) (digit_alone (u / 256 % 16) (omega arith))
    (All-cons IsAlone c (d ∷ words us) (digit_alone (u / 16 % 16) (omega arith))
    (All-cons IsAlone d (words us) (digit_alone (u % 16) (omega arith)) (words_alone us))))

all_alone : (t rest : List ℕ) → All IsAlone t → flat_map apart (t ++ rest) ≡ t ++ flat_map apart rest
all_alone [] rest h = refl
all_alone (b ∷ t) rest h =
    ap (λ (l : List ℕ). l ++ flat_map apart (t ++ rest)) (All-head IsAlone b t h) ∙ ap (λ (l : List ℕ). b ∷ l) (all_alone t rest (All-tail IsAlone b t h))

pub record IsPlain (b : ℕ) : Type 0 where
  pub dark : IsDark b
  pub alone : IsAlone b

digit_plain : (b : ℕ) → is_ascii_digit b ≡ true → IsPlain b
digit_plain b h =
    let l : 47 < b = grind (arith, nat_tests) in
    let m : b < 60 = grind (arith, nat_tests) in
    record { dark = dark b (omega arith); alone = low_alone b l m }

digits_plain : (t : List ℕ) → all_ascii_digits t ≡ true → All IsPlain t
digits_plain [] h = All-nil IsPlain
digits_plain (b ∷ t) h =
    let p = and_parts (is_ascii_digit b) (all_ascii_digits t) h in
    All-cons IsPlain b t (digit_plain b p.0) (digits_plain t p.1)

minus_plain : (t : List ℕ) → All IsPlain t → All IsPlain (45 ∷ t)
minus_plain t h = All-cons IsPlain 45 t (record { dark = dark 45 (omega arith); alone = refl }) h

-- ---- an operand

operand_by : (os : List (List ℕ)) (t : List ℕ) (ts : List (List ℕ)) → is_operator t ≡ false → said_from os (t ∷ ts) ≡ said_from (os ++ t ∷ []) ts
operand_by os t ts e = rw e refl

operand_read : (os : List (List ℕ)) (t rest : List ℕ) → All IsDark t → 0 < length t → is_operator t ≡ false → said_from os (tokens (t ++ 32 ∷ rest)) ≡ said_from (os ++ t ∷ []) (tokens rest)
operand_read os t rest h l e = ap (λ (ts : List (List ℕ)). said_from os ts) (first_token t 32 rest h l refl) ∙ operand_by os t (tokens rest) e

hex_apart : (us rest : List ℕ) → flat_map apart (hex_string us ++ rest) ≡ 32 ∷ (hex_string us ++ 32 ∷ flat_map apart rest)
hex_apart us rest =
    ap (λ (l : List ℕ). 32 ∷ 60 ∷ flat_map apart l) (append_assoc (words us) (codes ">") rest)
    ∙ ap (λ (l : List ℕ). 32 ∷ 60 ∷ l) (all_alone (words us) (codes ">" ++ rest) (words_alone us))
    ∙ ap (λ (l : List ℕ). 32 ∷ 60 ∷ l) (sym (append_assoc (words us) (codes ">") (32 ∷ flat_map apart rest)))

-- a string, whatever is after it
hex_read : (os : List (List ℕ)) (us rest : List ℕ) → said_from os (tokens_in (hex_string us ++ rest)) ≡ said_from (os ++ hex_string us ∷ []) (tokens_in rest)
hex_read os us rest = ap (λ (t : List ℕ). said_from os (tokens t)) (hex_apart us rest) ∙ operand_read os (hex_string us) (flat_map apart rest) (hex_dark us) (omega arith) refl

pub record IsNumber (t : List ℕ) : Type 0 where
  pub plain : All IsPlain t
  pub some : 0 < length t
  pub operand : is_operator t ≡ false

-- a number, with a blank or a delimiter after it
number_read : (os : List (List ℕ)) (t rest more : List ℕ) → IsNumber t → flat_map apart rest ≡ 32 ∷ more → said_from os (tokens_in (t ++ rest)) ≡ said_from (os ++ t ∷ []) (tokens_in rest)
number_read os t rest more h e =
    ap (λ (l : List ℕ). said_from os (tokens l)) (all_alone t rest (All-weaker IsPlain IsAlone (λ b p. p.alone) t h.plain))
    ∙ ap (λ (l : List ℕ). said_from os (tokens (t ++ l))) e
    ∙ operand_read os t more (All-weaker IsPlain IsDark (λ b p. p.dark) t h.plain) h.some h.operand
    ∙ ap (λ (l : List ℕ). said_from (os ++ t ∷ []) (tokens l)) (sym e)

no_letter : (b : ℕ) → is_ascii_digit b ≡ true → is_letter b ≡ false
no_letter b h = grind (arith, nat_tests)

digits_first : (ds rest : List ℕ) → all_ascii_digits ds ≡ true → 0 < length ds → is_operator (ds ++ rest) ≡ false
digits_first [] rest h l = absurd (omega arith)
digits_first (b ∷ ds) rest h l = no_letter b (and_parts (is_ascii_digit b) (all_ascii_digits ds) h).0

digits_operand : (t : List ℕ) → all_ascii_digits t ≡ true → is_operator t ≡ false
digits_operand [] h = refl
digits_operand (b ∷ t) h = no_letter b (and_parts (is_ascii_digit b) (all_ascii_digits t) h).0

integer_number : (z : ℤ) → unsigned_abs z < 2 ^ 64 → IsNumber (signed_decimal z)
integer_number (pos n) l = record { plain = digits_plain (decimal n) (decimal_digits n l); some = decimal_some n l; operand = digits_operand (decimal n) (decimal_digits n l) }
integer_number (negsuc n) l = record { plain = minus_plain (decimal (suc n)) (digits_plain (decimal (suc n)) (decimal_digits (suc n) l)); some = omega arith; operand = refl }

-- ---- elements of an array

not_angle : (b : ℕ) → is_ascii_digit b ≡ true → (b == 60) ≡ false
not_angle b h = grind (arith, nat_tests)

hex_digits : (t : List ℕ) → all_ascii_digits t ≡ true → hex_in t ≡ None
hex_digits [] h = refl
hex_digits (b ∷ t) h = rw (not_angle b (and_parts (is_ascii_digit b) (all_ascii_digits t) h).0) refl

hex_integer : (z : ℤ) → unsigned_abs z < 2 ^ 64 → hex_in (signed_decimal z) ≡ None
hex_integer (pos n) l = hex_digits (decimal n) (decimal_digits n l)
hex_integer (negsuc n) l = refl

number_element : (z : ℤ) → unsigned_abs z < 2 ^ 64 → element_in (signed_decimal z) ≡ number z ∷ []
number_element z l =
    ap (λ (o : Option (List ℕ)). element_by o (integer_in (signed_decimal z))) (hex_integer z l)
    ∙ ap (λ (o : Option ℤ). element_by None o) (integer_read z l)

codes_element : (cs : List ℕ) → All (λ c. c < 65536) cs → element_in (hex_string cs) ≡ map code cs
codes_element cs h = ap (λ (o : Option (List ℕ)). element_by o (integer_in (hex_string cs))) (units_read cs h)

element_more : (os : List (List ℕ)) (t : List ℕ) (ms : List Mark) → element_in t ≡ ms → flat_map element_in (os ++ t ∷ []) ≡ flat_map element_in os ++ ms
element_more os t ms e = flat_map-append element_in os (t ∷ []) ∙ ap (λ (l : List Mark). flat_map element_in os ++ l) (append-nil (element_in t) ∙ e)

-- ---- an array that is open

string_read : (os : List (List ℕ)) (cs rest : List ℕ) → said_from os (tokens_in (codes "<" ++ (words cs ++ (codes ">" ++ rest)))) ≡ said_from (os ++ hex_string cs ∷ []) (tokens_in rest)
string_read os cs rest = ap (λ (t : List ℕ). said_from os (tokens_in (60 ∷ t))) (sym (append_assoc (words cs) (codes ">") rest)) ∙ hex_read os cs rest

array_ended : (os : List (List ℕ)) (rest : List ℕ) → said_from os (tokens_in (codes "]TJ\n" ++ rest)) ≡ flat_map element_in os ++ said_in rest
array_ended os rest = ap (λ (ms : List Mark). ms ++ said_in rest) (element_more os (codes "]") [] refl ∙ append-nil (flat_map element_in os))

string_ended : (os : List (List ℕ)) (cs rest : List ℕ) → All (λ c. c < 65536) cs → said_from os (tokens_in (codes "<" ++ (words cs ++ (codes ">]TJ\n" ++ rest)))) ≡ flat_map element_in os ++ (map code cs ++ said_in rest)
string_ended os cs rest h =
    string_read os cs (codes "]TJ\n" ++ rest)
    ∙ array_ended (os ++ hex_string cs ∷ []) rest
    ∙ ap (λ (ms : List Mark). ms ++ said_in rest) (element_more os (hex_string cs) (map code cs) (codes_element cs h))
    ∙ append_assoc (flat_map element_in os) (map code cs) (said_in rest)

number_ended : (os : List (List ℕ)) (z : ℤ) (rest : List ℕ) → unsigned_abs z < 2 ^ 64 → said_from os (tokens_in (signed_decimal z ++ (codes "]TJ\n" ++ rest))) ≡ flat_map element_in os ++ (number z ∷ said_in rest)
number_ended os z rest l =
    number_read os (signed_decimal z) (codes "]TJ\n" ++ rest) _ (integer_number z l) refl
    ∙ array_ended (os ++ signed_decimal z ∷ []) rest
    ∙ ap (λ (ms : List Mark). ms ++ said_in rest) (element_more os (signed_decimal z) (number z ∷ []) (number_element z l))
    ∙ append_assoc (flat_map element_in os) (number z ∷ []) (said_in rest)

some_codes : (n : ℕ) → 0 < n → (n == 0) ≡ false
some_codes n l = grind (arith, nat_tests)

closing_open : (o : OpenArray) → 0 < o.codes → closing o ≡ codes ">]TJ\n"
closing_open o l = rw (some_codes o.codes l) refl

last_open : (o : OpenArray) → 0 < o.codes → last o ≡ 62
last_open o l = rw (some_codes o.codes l) refl

-- what is read of a text that is written after what is open: after operands and a string with codes
abbrev IsReadOpen : (OpenArray → List ℕ) → List Mark → Type 0
IsReadOpen text ms =
    (os : List (List ℕ)) (cs : List ℕ) (o : OpenArray) → 0 < o.codes → o.codes ≡ length cs → All (λ c. c < 65536) cs → said_from os (tokens_in (codes "<" ++ (words cs ++ text o))) ≡ flat_map element_in os ++ (map code cs ++ ms)

-- and after nothing
abbrev IsRead : (OpenArray → List ℕ) → List Mark → Type 0
IsRead text ms = (said_in (text shut) ≡ ms) × IsReadOpen text ms

-- what ends an array is read after it
ends_read : (own rest : List ℕ) (ms : List Mark) → said_in (own ++ rest) ≡ ms → IsRead (λ o. (closing o ++ own) ++ rest) ms
ends_read own rest ms e = (
  e,
  λ os cs o l n h.
      ap (λ (t : List ℕ). said_from os (tokens_in (codes "<" ++ (words cs ++ t)))) (ap (λ (t : List ℕ). (t ++ own) ++ rest) (closing_open o l) ∙ append_assoc (codes ">]TJ\n") own rest)
      ∙ string_ended os cs (own ++ rest) h
      ∙ ap (λ (m : List Mark). flat_map element_in os ++ (map code cs ++ m)) e,
)

-- ---- spans

units_small_by : (c : ℕ) (more : List ℕ) → c < 1114112 → All (λ u. u < 65536) more → (b : Bool) → nat_lt c 65536 ≡ b → All (λ u. u < 65536) ((if b then c ∷ [] else (55296 + (c - 65536) / 1024) ∷ (56320 + (c - 65536) % 1024) ∷ []) ++ more)
units_small_by c more l h true e = All-cons (λ u. u < 65536) c more (grind (arith, nat_tests)) h
units_small_by c more l h false e = All-cons (λ u. u < 65536) (55296 + (c - 65536) / 1024) ((56320 + (c - 65536) % 1024) ∷ more) (omega arith) (All-cons (λ u. u < 65536) (56320 + (c - 65536) % 1024) more (omega arith) h)

units_small : (cs : List ℕ) → All (λ c. c < 1114112) cs → All (λ u. u < 65536) (units_of cs)
units_small [] h = All-nil (λ u. u < 65536)
units_small (c ∷ cs) h = units_small_by c (units_of cs) (All-head (λ x. x < 1114112) c cs h) (units_small cs (All-tail (λ x. x < 1114112) c cs h)) (nat_lt c 65536) refl

span_regrouped : (h rest : List ℕ) → (codes "/Span << /ActualText " ++ (h ++ codes " >> BDC\n")) ++ rest ≡ codes "/Span << /ActualText " ++ (h ++ (codes " >> BDC\n" ++ rest))
span_regrouped h rest = simp append_assoc

span_read : (us rest : List ℕ) → All (λ u. u < 65536) us → said_in ((codes "/Span << /ActualText " ++ (hex_string (65279 ∷ us) ++ codes " >> BDC\n")) ++ rest) ≡ actual us ∷ said_in rest
span_read us rest h =
    ap said_in (span_regrouped (hex_string (65279 ∷ us)) rest)
    ∙ hex_read (codes "/Span" ∷ codes "<" ∷ codes "<" ∷ codes "/ActualText" ∷ []) (65279 ∷ us) (codes " >> BDC\n" ++ rest)
    ∙ ap (λ (o : Option (List ℕ)). text_by o ++ said_in rest) (units_read (65279 ∷ us) (All-cons (λ u. u < 65536) 65279 us (omega arith) h))

-- ---- the text rise

digit_is : (x : ℕ) → x < 10 → digit_value (48 + x) ≡ x
digit_is x l = let h : digit_value (48 + x) + 48 ≡ 48 + x = digit_value_digit (48 + x) (omega arith, omega arith) in omega arith

digit_ascii : (x : ℕ) → x < 10 → is_ascii_digit (48 + x) ≡ true
digit_ascii x l = grind (arith, nat_tests)

three_value : (a b c : ℕ) → a < 10 → b < 10 → c < 10 → digits_value 10 ((48 + a) ∷ (48 + b) ∷ (48 + c) ∷ []) ≡ 100 * a + 10 * b + c
three_value a b c la lb lc = omega (arith, digit_is a la, digit_is b lb, digit_is c lc)

six_value : (a b c d e f : ℕ) → a < 10 → b < 10 → c < 10 → d < 10 → e < 10 → f < 10
    → digits_value 10 ((48 + a) ∷ (48 + b) ∷ (48 + c) ∷ (48 + d) ∷ (48 + e) ∷ (48 + f) ∷ []) ≡ 100000 * a + 10000 * b + 1000 * c + 100 * d + 10 * e + f
six_value a b c d e f la lb lc ld le lf = omega (arith, digit_is a la, digit_is b lb, digit_is c lc, digit_is d ld, digit_is e le, digit_is f lf)

three_ascii : (a b c : ℕ) (more : List ℕ) → a < 10 → b < 10 → c < 10 → all_ascii_digits more ≡ true → all_ascii_digits ((48 + a) ∷ (48 + b) ∷ (48 + c) ∷ more) ≡ true
three_ascii a b c more la lb lc h = rw (digit_ascii a la, digit_ascii b lb, digit_ascii c lc, h) refl

three_are : (n : ℕ) → n < 1000 → 100 * (n / 100 % 10) + 10 * (n / 10 % 10) + n % 10 ≡ n
three_are n l = omega arith

three_read : (n : ℕ) → n < 1000 → digits_value 10 (three_digits n) ≡ n
three_read n l = three_value (n / 100 % 10) (n / 10 % 10) (n % 10) (omega arith) (omega arith) (omega arith) ∙ three_are n l

six_are : (n m : ℕ) → n < 1000000 → m ≡ n / 1000 → 100000 * (m / 100 % 10) + 10000 * (m / 10 % 10) + 1000 * (m % 10) + 100 * (n / 100 % 10) + 10 * (n / 10 % 10) + n % 10 ≡ n
six_are n m l e = omega arith

six_read : (n : ℕ) → n < 1000000 → digits_value 10 (three_digits (n / 1000) ++ three_digits n) ≡ n
six_read n l =
    let m : ℕ = n / 1000 in
    six_value (m / 100 % 10) (m / 10 % 10) (m % 10) (n / 100 % 10) (n / 10 % 10) (n % 10) (omega arith) (omega arith) (omega arith) (omega arith) (omega arith) (omega arith) ∙ six_are n m l refl

three_digits_are : (n : ℕ) (more : List ℕ) → all_ascii_digits more ≡ true → all_ascii_digits (three_digits n ++ more) ≡ true
three_digits_are n more h = three_ascii (n / 100 % 10) (n / 10 % 10) (n % 10) more (omega arith) (omega arith) (omega arith) h

no_point : (b : ℕ) → is_ascii_digit b ≡ true → (b == 46) ≡ false
no_point b h = grind (arith, nat_tests)

digits_pointless : (t : List ℕ) → all_ascii_digits t ≡ true → All (λ b. (b == 46) ≡ false) t
digits_pointless [] h = All-nil (λ b. (b == 46) ≡ false)
digits_pointless (c ∷ t) h =
    let p = and_parts (is_ascii_digit c) (all_ascii_digits t) h in
    All-cons (λ b. (b == 46) ≡ false) c t (no_point c p.0) (digits_pointless t p.1)

parts_read : (whole rest : List ℕ) → all_ascii_digits whole ≡ true → all_ascii_digits rest ≡ true → unsigned_in (whole ++ 46 ∷ rest) ≡ fraction_in whole rest
parts_read whole rest h g =
    ap parts_in
    (slice_split_at (λ b. b == 46) whole 46 rest (digits_pointless whole h) refl
    ∙ ap (λ (ts : List (List ℕ)). whole ∷ ts) (slice_split_none (λ b. b == 46) rest (digits_pointless rest g)))

whole_read : (whole : List ℕ) → all_ascii_digits whole ≡ true → unsigned_in (whole ++ []) ≡ fraction_in whole []
whole_read whole h = ap unsigned_in (append-nil whole) ∙ ap parts_in (slice_split_none (λ b. b == 46) whole (digits_pointless whole h))

fraction_by : (w r : List ℕ) (k q m n : ℕ) → all_ascii_digits w ≡ true → all_ascii_digits r ≡ true → length r ≡ k → nat_le k 6 ≡ true → digits_value 10 w ≡ q → digits_value 10 r ≡ m → 1000000 * q + m * 10 ^ (6 - k) ≡ n → fraction_in w r ≡ Some (pos n)
fraction_by w r k q m n a b c le d e f = rw (a, b, c, le, d, e) (ap (λ (k : ℕ). Some (pos k)) f)

-- the number that is written, and its bytes
pub record IsReal (t : List ℕ) (n : ℕ) : Type 0 where
  pub value : unsigned_in t ≡ Some (pos n)
  pub plain : All IsPlain t

point_plain : IsPlain 46
point_plain = record { dark = dark 46 (omega arith); alone = refl }

pointed : (w r : List ℕ) (k q m n : ℕ) → all_ascii_digits w ≡ true → all_ascii_digits r ≡ true → length r ≡ k → nat_le k 6 ≡ true → digits_value 10 w ≡ q → digits_value 10 r ≡ m → 1000000 * q + m * 10 ^ (6 - k) ≡ n → IsReal (w ++ 46 ∷ r) n
pointed w r k q m n a b c le d e f = record {
  value = parts_read w r a b ∙ fraction_by w r k q m n a b c le d e f;
  plain = All-append IsPlain w (46 ∷ r) (digits_plain w a) (All-cons IsPlain 46 r point_plain (digits_plain r b));
}

unpointed : (w : List ℕ) (q n : ℕ) → all_ascii_digits w ≡ true → digits_value 10 w ≡ q → 1000000 * q + 0 * 10 ^ (6 - 0) ≡ n → IsReal (w ++ []) n
unpointed w q n a d f = record { value = whole_read w a ∙ fraction_by w [] 0 q 0 n a refl refl refl d refl f; plain = subst (All IsPlain) (sym (append-nil w)) (digits_plain w a) }

unsigned_by : (a b : Bool) (w : List ℕ) (q m n : ℕ) → (m == 0) ≡ a → (m % 1000 == 0) ≡ b → all_ascii_digits w ≡ true → digits_value 10 w ≡ q → m < 1000000 → 1000000 * q + m ≡ n
    → IsReal (w ++ (if a then [] else if b then 46 ∷ three_digits (m / 1000) else 46 ∷ (three_digits (m / 1000) ++ three_digits m))) n
unsigned_by true b w q m n none low digits value l e =
    let zero_is : m ≡ 0 = (Decides-eqb m 0).0 none in
    unpointed w q n digits value (omega arith)
unsigned_by false true w q m n none low digits value l e =
    let zero_is : m % 1000 ≡ 0 = (Decides-eqb (m % 1000) 0).0 low in
    pointed w (three_digits (m / 1000)) 3 q (m / 1000) n digits (three_digits_are (m / 1000) [] refl) refl refl value (three_read (m / 1000) (omega arith)) (omega arith)
unsigned_by false false w q m n none low digits value l e =
    pointed w (three_digits (m / 1000) ++ three_digits m) 6 q m n digits (three_digits_are (m / 1000) (three_digits m) (three_digits_are m [] refl)) refl refl value (six_read m l) (omega arith)

unsigned_read : (n : ℕ) → n < 2 ^ 64 → IsReal (decimal (n / 1000000) ++ fraction (n % 1000000)) n
unsigned_read n l =
    let m : ℕ = n % 1000000 in
    unsigned_by (m == 0) (m % 1000 == 0) (decimal (n / 1000000)) (n / 1000000) m n refl refl (decimal_digits (n / 1000000) (omega arith)) (decimal_is_IsNumeral (n / 1000000) (omega arith)).1 (omega arith) (omega arith)

not_minus : (b : ℕ) → is_ascii_digit b ≡ true → (b == 45) ≡ false
not_minus b h = grind (arith, nat_tests)

real_plain : (ds rest : List ℕ) → all_ascii_digits ds ≡ true → 0 < length ds → real_in (ds ++ rest) ≡ unsigned_in (ds ++ rest)
real_plain [] rest h l = absurd (omega arith)
real_plain (b ∷ ds) rest h l = rw (not_minus b (and_parts (is_ascii_digit b) (all_ascii_digits ds) h).0) refl

not_below_zero : (k : ℕ) → nat_lt k 0 ≡ false
not_below_zero k = grind (arith, nat_tests)

no_sign : (k n : ℕ) → millionths (pos k) n ≡ decimal (n / 1000000) ++ fraction (n % 1000000)
no_sign k n = ap (λ (b : Bool). (if b then codes "-" else []) ++ (decimal (n / 1000000) ++ fraction (n % 1000000))) (not_below_zero k)

real_read : (z : ℤ) (n : ℕ) → n < 2 ^ 64 → real_in (millionths z n) ≡ Some (sized z n)
real_read (pos k) n l =
    ap real_in (no_sign k n)
    ∙ real_plain (decimal (n / 1000000)) (fraction (n % 1000000)) (decimal_digits (n / 1000000) (omega arith)) (decimal_some (n / 1000000) (omega arith))
    ∙ (unsigned_read n l).value
real_read (negsuc k) n l = ap (λ (o : Option ℤ). option_map neg_ℤ o) (unsigned_read n l).value

some_more : (t rest : List ℕ) → 0 < length t → 0 < length (t ++ rest)
some_more t rest l = omega (arith, length-append t rest)

unsigned_number : (n : ℕ) → n < 2 ^ 64 → IsNumber (decimal (n / 1000000) ++ fraction (n % 1000000))
unsigned_number n l = record {
  plain = (unsigned_read n l).plain;
  some = some_more (decimal (n / 1000000)) (fraction (n % 1000000)) (decimal_some (n / 1000000) (omega arith));
  operand = digits_first (decimal (n / 1000000)) (fraction (n % 1000000)) (decimal_digits (n / 1000000) (omega arith)) (decimal_some (n / 1000000) (omega arith));
}

real_number : (z : ℤ) (n : ℕ) → n < 2 ^ 64 → IsNumber (millionths z n)
real_number (pos k) n l = subst IsNumber (sym (no_sign k n)) (unsigned_number n l)
real_number (negsuc k) n l = record { plain = minus_plain (decimal (n / 1000000) ++ fraction (n % 1000000)) (unsigned_read n l).plain; some = omega arith; operand = refl }

rise_read : (z : ℤ) (n : ℕ) (rest : List ℕ) → n < 2 ^ 64 → said_in ((millionths z n ++ codes " Ts\n") ++ rest) ≡ rise (sized z n) ∷ said_in rest
rise_read z n rest l =
    ap said_in (append_assoc (millionths z n) (codes " Ts\n") rest)
    ∙ number_read [] (millionths z n) (codes " Ts\n" ++ rest) _ (real_number z n l) refl
    ∙ ap (λ (o : Option ℤ). map rise (option_to_list o) ++ said_in rest) (real_read z n l)

-- ---- codes

pub words_joined : (xs ys : List ℕ) → words (xs ++ ys) ≡ words xs ++ words ys
words_joined [] ys = refl
words_joined (x ∷ xs) ys = ap (λ (l : List ℕ). word x ++ l) (words_joined xs ys) ∙ sym (append_assoc (word x) (words xs) (words ys))

-- in the string that is open
joined_read : (text : OpenArray → List ℕ) (ms : List Mark) (os : List (List ℕ)) (cs : List ℕ) (c : ℕ) (o next : OpenArray) → IsReadOpen text ms → o.codes ≡ length cs → All (λ c. c < 65536) cs → c < 65536 → next.codes ≡ o.codes + 1
    → said_from os (tokens_in (codes "<" ++ (words cs ++ (word c ++ text next)))) ≡ flat_map element_in os ++ (map code cs ++ (code c ∷ ms))
joined_read text ms os cs c o next ih n h lc e =
    let more : List ℕ = cs ++ c ∷ [] in
    ap (λ (t : List ℕ). said_from os (tokens_in (codes "<" ++ t)))
    (sym (append_assoc (words cs) (word c) (text next)) ∙ ap (λ (t : List ℕ). t ++ text next) (sym (words_joined cs (c ∷ []))))
    ∙ ih os more next (omega arith) (omega (arith, length-append cs (c ∷ []))) (All-push (λ c. c < 65536) cs c h lc)
    ∙ ap (λ (m : List Mark). flat_map element_in os ++ m) (ap (λ (m : List Mark). m ++ ms) (map-append code cs (c ∷ [])) ∙ append_assoc (map code cs) (code c ∷ []) ms)

one_code : (c : ℕ) → c < 65536 → All (λ c. c < 65536) (c ∷ [])
one_code c l = All-cons (λ c. c < 65536) c [] l (All-nil (λ c. c < 65536))

further_regrouped : (d w rest : List ℕ) → ((codes ">" ++ (d ++ codes "<")) ++ w) ++ rest ≡ codes ">" ++ (d ++ (codes "<" ++ (w ++ rest)))
further_regrouped d w rest = simp append_assoc

-- in another string of the array
further_read : (text : OpenArray → List ℕ) (ms : List Mark) (os : List (List ℕ)) (cs : List ℕ) (z : ℤ) (c : ℕ) (next : OpenArray) → IsReadOpen text ms → All (λ c. c < 65536) cs → unsigned_abs z < 2 ^ 64 → c < 65536 → next.codes ≡ 1
    → said_from os (tokens_in (codes "<" ++ (words cs ++ ((further z ++ word c) ++ text next)))) ≡ flat_map element_in os ++ (map code cs ++ (number z ∷ code c ∷ ms))
further_read text ms os cs z c next ih h lz lc e =
    let following : List ℕ = codes "<" ++ (word c ++ text next) in
    let string : List (List ℕ) = os ++ hex_string cs ∷ [] in
    let all : List Mark = code c ∷ ms in
    ap (λ (t : List ℕ). said_from os (tokens_in (codes "<" ++ (words cs ++ t)))) (further_regrouped (signed_decimal z) (word c) (text next))
    ∙ string_read os cs (signed_decimal z ++ following)
    ∙ number_read string (signed_decimal z) following _ (integer_number z lz) refl
    ∙ ih (string ++ signed_decimal z ∷ []) (c ∷ []) next (omega arith) e (one_code c lc)
    ∙ ap (λ (m : List Mark). m ++ all) (element_more string (signed_decimal z) (number z ∷ []) (number_element z lz))
    ∙ append_assoc (flat_map element_in string) (number z ∷ []) all
    ∙ ap (λ (m : List Mark). m ++ (number z ∷ all)) (element_more os (hex_string cs) (map code cs) (codes_element cs h))
    ∙ append_assoc (flat_map element_in os) (map code cs) (number z ∷ all)

opening_regrouped : (d w rest : List ℕ) → ((codes "[" ++ (d ++ codes "<")) ++ w) ++ rest ≡ codes "[" ++ (d ++ (codes "<" ++ (w ++ rest)))
opening_regrouped d w rest = simp append_assoc

-- in another array
opening_by : (b : Bool) (text : OpenArray → List ℕ) (ms : List Mark) (z : ℤ) (c : ℕ) (next : OpenArray) → IsReadOpen text ms → unsigned_abs z < 2 ^ 64 → c < 65536 → next.codes ≡ 1
    → said_in (((codes "[" ++ ((if b then [] else signed_decimal z) ++ codes "<")) ++ word c) ++ text next) ≡ (if b then [] else number z ∷ []) ++ (code c ∷ ms)
opening_by true text ms z c next ih lz lc e = ih (codes "[" ∷ []) (c ∷ []) next (omega arith) e (one_code c lc)
opening_by false text ms z c next ih lz lc e =
    let following : List ℕ = codes "<" ++ (word c ++ text next) in
    ap said_in (opening_regrouped (signed_decimal z) (word c) (text next))
    ∙ number_read (codes "[" ∷ []) (signed_decimal z) following _ (integer_number z lz) refl
    ∙ ih (codes "[" ∷ signed_decimal z ∷ []) (c ∷ []) next (omega arith) e (one_code c lc)
    ∙ ap (λ (m : List Mark). (m ++ []) ++ (code c ∷ ms)) (number_element z lz)

no_numbers : (b : Bool) (z : ℤ) (c : ℕ) (ms : List Mark) → b ≡ true → code c ∷ ms ≡ ((if b then [] else number z ∷ []) ++ code c ∷ []) ++ ms
no_numbers true z c ms e = refl
no_numbers false z c ms e = absurd cc

some_numbers : (b : Bool) (z : ℤ) (c : ℕ) (ms : List Mark) → not b ≡ true → number z ∷ code c ∷ ms ≡ ((if b then [] else number z ∷ []) ++ code c ∷ []) ++ ms
some_numbers false z c ms e = refl
some_numbers true z c ms e = absurd cc

opened : (text : OpenArray → List ℕ) (ms : List Mark) (z : ℤ) (c : ℕ) (next : OpenArray) → IsReadOpen text ms → unsigned_abs z < 2 ^ 64 → c < 65536 → next.codes ≡ 1 → said_in ((opening z ++ word c) ++ text next) ≡ (numbers z ++ code c ∷ []) ++ ms
opened text ms z c next ih lz lc e = opening_by (int_eq z (pos 0)) text ms z c next ih lz lc e ∙ sym (append_assoc (numbers z) (code c ∷ []) ms)

shown_by : (j f : Bool) (text : OpenArray → List ℕ) (ms : List Mark) (os : List (List ℕ)) (cs : List ℕ) (o : OpenArray) (z : ℤ) (c : ℕ) → is_joined o z ≡ j → is_further o z ≡ f → IsReadOpen text ms → 0 < o.codes → o.codes ≡ length cs → All (λ c. c < 65536) cs → unsigned_abs z < 2 ^ 64 → c < 65536
    → said_from os (tokens_in (codes "<" ++ (words cs ++ (((if j then [] else if f then further z else closing o ++ opening z) ++ word c) ++ text (if j then record { strings = o.strings; codes = o.codes + 1 } else if f then record { strings = o.strings + 1; codes = 1 } else record { strings = 1; codes = 1 })))))
    ≡ flat_map element_in os ++ (map code cs ++ ((numbers z ++ code c ∷ []) ++ ms))
shown_by true f text ms os cs o z c ej ef ih l n h lz lc =
    let none : int_eq z (pos 0) ≡ true = (and_parts (nat_lt o.codes 16383) (int_eq z (pos 0)) (and_parts (nat_lt 0 o.codes) _ ej).1).1 in
    joined_read text ms os cs c o (record { strings = o.strings; codes = o.codes + 1 }) ih n h lc refl ∙ ap (λ (m : List Mark). flat_map element_in os ++ (map code cs ++ m)) (no_numbers (int_eq z (pos 0)) z c ms none)
shown_by false true text ms os cs o z c ej ef ih l n h lz lc =
    let some : not (int_eq z (pos 0)) ≡ true = (and_parts (nat_lt o.strings 4095) (not (int_eq z (pos 0))) (and_parts (nat_lt 0 o.codes) _ ef).1).1 in
    further_read text ms os cs z c (record { strings = o.strings + 1; codes = 1 }) ih h lz lc refl ∙ ap (λ (m : List Mark). flat_map element_in os ++ (map code cs ++ m)) (some_numbers (int_eq z (pos 0)) z c ms some)
shown_by false false text ms os cs o z c ej ef ih l n h lz lc =
    let next : OpenArray = record { strings = 1; codes = 1 } in
    ap (λ (t : List ℕ). said_from os (tokens_in (codes "<" ++ (words cs ++ t)))) (ap (λ (t : List ℕ). t ++ text next) (append_assoc (closing o) (opening z) (word c)))
    ∙ (ends_read (opening z ++ word c) (text next) ((numbers z ++ code c ∷ []) ++ ms) (opened text ms z c next ih lz lc refl)).1 os cs o l n h

shown_read : (text : OpenArray → List ℕ) (ms : List Mark) (z : ℤ) (c : ℕ) → IsRead text ms → unsigned_abs z < 2 ^ 64 → c < 65536 → IsRead (λ o. (leading o z ++ word c) ++ text (open_after_code o z)) ((numbers z ++ code c ∷ []) ++ ms)
shown_read text ms z c ih lz lc = (
  opened text ms z c (record { strings = 1; codes = 1 }) ih.1 lz lc refl,
  λ os cs o l n h. shown_by (is_joined o z) (is_further o z) text ms os cs o z c refl refl ih.1 l n h lz lc,
)

-- ---- a number at the end of an array

back_read : (rest : List ℕ) (ms : List Mark) (z : ℤ) → said_in rest ≡ ms → unsigned_abs z < 2 ^ 64 → IsRead (λ o. last o ∷ ((signed_decimal z ++ codes "]TJ\n") ++ rest)) (number z ∷ ms)
back_read rest ms z e lz = (
  ap (λ (t : List ℕ). said_in (91 ∷ t)) (append_assoc (signed_decimal z) (codes "]TJ\n") rest) ∙ number_ended (codes "[" ∷ []) z rest lz ∙ ap (λ (m : List Mark). number z ∷ m) e,
  λ os cs o l n h.
      ap (λ (t : List ℕ). said_from os (tokens_in (codes "<" ++ (words cs ++ t)))) (ap (λ (b : ℕ). b ∷ ((signed_decimal z ++ codes "]TJ\n") ++ rest)) (last_open o l) ∙ ap (λ (t : List ℕ). 62 ∷ t) (append_assoc (signed_decimal z) (codes "]TJ\n") rest))
      ∙ string_read os cs (signed_decimal z ++ (codes "]TJ\n" ++ rest))
      ∙ number_ended (os ++ hex_string cs ∷ []) z rest lz
      ∙ ap (λ (m : List Mark). m ++ (number z ∷ said_in rest)) (element_more os (hex_string cs) (map code cs) (codes_element cs h))
      ∙ append_assoc (flat_map element_in os) (map code cs) (number z ∷ said_in rest)
      ∙ ap (λ (m : List Mark). flat_map element_in os ++ (map code cs ++ (number z ∷ m))) e,
)

-- ---- all operations

all_read : (size : ℕ) (pairs : List Pair) (ops : List Act) → All (IsWritable size pairs) ops → IsRead (λ o. written size pairs o ops) (flat_map (marks_of size pairs) ops)
all_read size pairs [] w =
    (refl, λ os cs o l n h. ap (λ (t : List ℕ). said_from os (tokens_in (codes "<" ++ (words cs ++ t)))) (closing_open o l) ∙ string_ended os cs [] h)
all_read size pairs (begin text ∷ ops) w =
    let ih = all_read size pairs ops (All-tail (IsWritable size pairs) (begin text) ops w) in
    ends_read (span_text text) (written size pairs shut ops) (actual (units_of text) ∷ flat_map (marks_of size pairs) ops)
    (span_read (units_of text) (written size pairs shut ops) (units_small text (All-head (IsWritable size pairs) (begin text) ops w)) ∙ ap (λ (m : List Mark). actual (units_of text) ∷ m) ih.0)
all_read size pairs (finish ∷ ops) w =
    let ih = all_read size pairs ops (All-tail (IsWritable size pairs) finish ops w) in
    ends_read (codes "EMC\n") (written size pairs shut ops) (ended ∷ flat_map (marks_of size pairs) ops) (ap (λ (m : List Mark). ended ∷ m) ih.0)
all_read size pairs (raise r ∷ ops) w =
    let ih = all_read size pairs ops (All-tail (IsWritable size pairs) (raise r) ops w) in
    let n : ℕ = unsigned_abs r * size in
    ends_read (millionths r n ++ codes " Ts\n") (written size pairs shut ops) (rise (sized r n) ∷ flat_map (marks_of size pairs) ops)
    (rise_read r n (written size pairs shut ops) (All-head (IsWritable size pairs) (raise r) ops w) ∙ ap (λ (m : List Mark). rise (sized r n) ∷ m) ih.0)
all_read size pairs (show z q ∷ ops) w =
    let own = All-head (IsWritable size pairs) (show z q) ops w in
    shown_read (λ o. written size pairs o ops) (flat_map (marks_of size pairs) ops) z (code_of pairs q) (all_read size pairs ops (All-tail (IsWritable size pairs) (show z q) ops w)) own.0 own.1
all_read size pairs (back z ∷ ops) w =
    let ih = all_read size pairs ops (All-tail (IsWritable size pairs) (back z) ops w) in
    back_read (written size pairs shut ops) (flat_map (marks_of size pairs) ops) z ih.0 (All-head (IsWritable size pairs) (back z) ops w)

pub operators_are_read : (size : ℕ) (pairs : List Pair) (acts : List Act) → All (IsWritable size pairs) acts → said_in (operators size pairs acts) ≡ flat_map (marks_of size pairs) acts
operators_are_read size pairs acts w = (all_read size pairs acts w).0
