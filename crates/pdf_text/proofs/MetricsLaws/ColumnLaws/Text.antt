-- The text of W2 says its parts.
use Rattle.std.proofs.Common.{◌≡◌, ℕ, suc, zero, ◌+◌, ◌-◌, ◌*◌, ◌^◌, ◌<◌, ◌≤◌, Bool, true, false, List, [], ◌∷◌, ◌++◌, length, map, take, get_or, refl, sym, ap, subst, ◌∙◌, append_assoc, append-nil, arith}
use Rattle.std.specs.Prelude.{◌==◌, ◌||◌, All, Option, Some, codes, decimal, ℤ, pos, negsuc, neg_ℤ, unsigned_abs, IfOk}
use Rattle.std.specs.Fmt.{signed_decimal}
use Rattle.std.specs.Option.{option_map, option_and_then}
use Rattle.std.specs.List.{join_with_byte}
use Rattle.std.specs.Char.{is_ascii_digit}
use Rattle.std.specs.Str.{all_ascii_digits, bytes_eq}
use Rattle.std.proofs.lemmas.List.Elements.{All-nil, All-cons, All-head, All-tail}
use Rattle.std.proofs.lemmas.Bool.Decides.{nat_tests}
use Rattle.subsetter_base.proofs.Lists.{and_parts}
use Rattle.pdf_text.specs.declared.metrics.columns.Column.{Column}
use Rattle.pdf_text.specs.declared.metrics.columns.DefaultColumn.{DefaultColumn}
use Rattle.pdf_text.specs.Tokens.{tokens, number_in}
use Rattle.pdf_text.specs.Metrics.Arrays.{spread}
use Rattle.pdf_text.specs.Metrics.Columns.{Span, listed_columns, same_columns, column_text, span_text, columns_text, integer_in, between_spans, past_first, after_last, after_advance, after_x, on_list, on_advance, on_x, spans_in, spans_of}
use Rattle.pdf_text.proofs.TokenLaws.Tokens.{IsDark, dark, first_token, digits_dark, decimal_digits, decimal_some, number_read, no_word}
use Rattle.subsetter_base.proofs.TextLemmas.{spaced, joined}

-- ---- integers

abbrev pub IsSmallInteger : ℤ → Type 0
IsSmallInteger z = unsigned_abs z < 2 ^ 64

no_minus : (b : ℕ) → is_ascii_digit b ≡ true → (b == 45) ≡ false
no_minus b h = grind (arith, nat_tests)

plain_by : (b : ℕ) (t : List ℕ) (c : Bool) → (b == 45) ≡ c → c ≡ false → integer_in (b ∷ t) ≡ option_map pos (number_in (b ∷ t))
plain_by b t false p q = rw p refl
plain_by b t true p q = absurd cc

plain_read : (t : List ℕ) → 0 < length t → all_ascii_digits t ≡ true → integer_in t ≡ option_map pos (number_in t)
plain_read [] l h = absurd (omega arith)
plain_read (b ∷ t) l h = plain_by b t _ refl (no_minus b (and_parts (is_ascii_digit b) (all_ascii_digits t) h).0)

pub integer_read : (z : ℤ) → IsSmallInteger z → integer_in (signed_decimal z) ≡ Some z
integer_read (pos n) l = plain_read (decimal n) (decimal_some n l) (decimal_digits n l) ∙ ap (λ (o : Option ℕ). option_map pos o) (number_read n l)
integer_read (negsuc n) l = ap (λ (o : Option ℕ). option_map (λ m. neg_ℤ (pos m)) o) (number_read (suc n) l)

-- ---- tokens among brackets

abbrev IsPlain : ℕ → Type 0
IsPlain b = (b == 91 || b == 93) ≡ false

no_bracket : (c : ℕ) → is_ascii_digit c ≡ true → IsPlain c
no_bracket c h = grind (arith, nat_tests)

digits_plain : (t : List ℕ) → all_ascii_digits t ≡ true → All IsPlain t
digits_plain [] h = All-nil IsPlain
digits_plain (c ∷ t) h =
    let p = and_parts (is_ascii_digit c) (all_ascii_digits t) h in
    All-cons IsPlain c t (no_bracket c p.0) (digits_plain t p.1)

as_it_is : (c : ℕ) (bs : List ℕ) → IsPlain c → spread (c ∷ bs) ≡ c ∷ spread bs
as_it_is c bs e = rw e refl

spread_plain : (t rest : List ℕ) → All IsPlain t → spread (t ++ rest) ≡ t ++ spread rest
spread_plain [] rest h = refl
spread_plain (c ∷ t) rest h =
    as_it_is c (t ++ rest) (All-head IsPlain c t h) ∙ ap (λ (l : List ℕ). c ∷ l) (spread_plain t rest (All-tail IsPlain c t h))

-- a token that is no bracket
pub record IsToken (t : List ℕ) : Type 0 where
  pub plain : All IsPlain t
  pub dark : All IsDark t
  pub some : 0 < length t

token_read : (t rest after : List ℕ) → IsToken t → spread rest ≡ 32 ∷ after → tokens (spread (t ++ rest)) ≡ t ∷ tokens (spread rest)
token_read t rest after h e =
    ap tokens (spread_plain t rest h.plain ∙ ap (λ (l : List ℕ). t ++ l) e)
    ∙ first_token t 32 after h.dark h.some refl
    ∙ ap (λ (l : List ℕ). t ∷ tokens l) (sym e)

decimal_token : (n : ℕ) → n < 2 ^ 64 → IsToken (decimal n)
decimal_token n l = record { plain = digits_plain (decimal n) (decimal_digits n l); dark = digits_dark (decimal n) (decimal_digits n l); some = decimal_some n l }

minus_token : (t : List ℕ) → IsToken t → IsToken (45 ∷ t)
minus_token t h = record { plain = All-cons IsPlain 45 t refl h.plain; dark = All-cons IsDark 45 t (dark 45 (omega arith)) h.dark; some = omega arith }

integer_token : (z : ℤ) → IsSmallInteger z → IsToken (signed_decimal z)
integer_token (pos n) l = decimal_token n l
integer_token (negsuc n) l = minus_token (decimal (suc n)) (decimal_token (suc n) l)

-- ---- the tokens of columns

pub record IsSmallColumn (c : Column) : Type 0 where
  pub advance : IsSmallInteger c.advance
  pub x : IsSmallInteger c.x
  pub y : IsSmallInteger c.y

abbrev column_tokens : Column → List (List ℕ) → List (List ℕ)
column_tokens c ts = signed_decimal c.advance ∷ signed_decimal c.x ∷ signed_decimal c.y ∷ ts

three_regrouped : (a b c rest : List ℕ) → (a ++ (32 ∷ (b ++ (32 ∷ c)))) ++ rest ≡ a ++ (32 ∷ (b ++ (32 ∷ (c ++ rest))))
three_regrouped a b c rest = append_assoc a (32 ∷ (b ++ (32 ∷ c))) rest ∙ ap (λ (l : List ℕ). a ++ (32 ∷ l)) (append_assoc b (32 ∷ c) rest)

tokens_of_column : (c : Column) (rest after : List ℕ) → IsSmallColumn c → spread rest ≡ 32 ∷ after → tokens (spread (column_text c ++ rest)) ≡ column_tokens c (tokens (spread rest))
tokens_of_column c rest after h e =
    let a = signed_decimal c.advance in
    let x = signed_decimal c.x in
    let y = signed_decimal c.y in
    ap (λ (t : List ℕ). tokens (spread t)) (three_regrouped a x y rest)
    ∙ token_read a (32 ∷ (x ++ (32 ∷ (y ++ rest)))) (spread (x ++ (32 ∷ (y ++ rest)))) (integer_token c.advance h.advance) refl
    ∙ ap (λ (ts : List (List ℕ)). a ∷ ts) (token_read x (32 ∷ (y ++ rest)) (spread (y ++ rest)) (integer_token c.x h.x) refl)
    ∙ ap (λ (ts : List (List ℕ)). a ∷ x ∷ ts) (token_read y rest after (integer_token c.y h.y) e)

abbrev pub AreSmallColumns : List Column → Type 0
AreSmallColumns [] = Unit {0}
AreSmallColumns (c ∷ cs) = IsSmallColumn c × AreSmallColumns cs

abbrev list_tokens : List Column → List (List ℕ) → List (List ℕ)
list_tokens [] ts = codes "]" ∷ ts
list_tokens (c ∷ cs) ts = column_tokens c (list_tokens cs ts)

-- what comes after a column on a list
after_column : (ts : List (List ℕ)) (rest : List ℕ) → (after : List ℕ) × (spread (spaced ts ++ (93 ∷ rest)) ≡ 32 ∷ after)
after_column [] rest = (93 ∷ 32 ∷ spread rest, refl)
after_column (t ∷ ts) rest = (spread ((t ++ spaced ts) ++ (93 ∷ rest)), refl)

spaced_tokens : (cs : List Column) (rest : List ℕ) → AreSmallColumns cs → tokens (spread (spaced (map column_text cs) ++ (93 ∷ rest))) ≡ list_tokens cs (tokens (spread rest))
spaced_tokens [] rest h = refl
spaced_tokens (c ∷ cs) rest h =
    let following = after_column (map column_text cs) rest in
    ap (λ (t : List ℕ). tokens (spread (32 ∷ t))) (append_assoc (column_text c) (spaced (map column_text cs)) (93 ∷ rest))
    ∙ tokens_of_column c (spaced (map column_text cs) ++ (93 ∷ rest)) following.0 h.0 following.1
    ∙ ap (λ (ts : List (List ℕ)). column_tokens c ts) (spaced_tokens cs rest h.1)

tokens_of_list : (cs : List Column) (rest : List ℕ) → AreSmallColumns cs → tokens (spread (join_with_byte 32 (map column_text cs) ++ (93 ∷ rest))) ≡ list_tokens cs (tokens (spread rest))
tokens_of_list [] rest h = refl
tokens_of_list (c ∷ cs) rest h =
    ap (λ (t : List ℕ). tokens (spread (t ++ (93 ∷ rest)))) (joined (column_text c) (map column_text cs)) ∙ spaced_tokens (c ∷ cs) rest h

-- ---- the tokens of a part

abbrev IsSmallSpan : Span → Type 0
IsSmallSpan (listed_columns first cs) = (first < 2 ^ 64) × AreSmallColumns cs
IsSmallSpan (same_columns first last c) = (first < 2 ^ 64) × (last < 2 ^ 64) × IsSmallColumn c

abbrev span_tokens : Span → List (List ℕ) → List (List ℕ)
span_tokens (listed_columns first cs) ts = decimal first ∷ codes "[" ∷ list_tokens cs ts
span_tokens (same_columns first last c) ts = decimal first ∷ decimal last ∷ column_tokens c ts

listed_regrouped : (a b rest : List ℕ) → (a ++ (codes " [" ++ (b ++ codes "]"))) ++ rest ≡ a ++ (codes " [" ++ (b ++ (93 ∷ rest)))
listed_regrouped a b rest = append_assoc a (codes " [" ++ (b ++ codes "]")) rest ∙ ap (λ (l : List ℕ). a ++ (codes " [" ++ l)) (append_assoc b (codes "]") rest)

tokens_of_span : (s : Span) (rest after : List ℕ) → IsSmallSpan s → spread rest ≡ 32 ∷ after → tokens (spread (span_text s ++ rest)) ≡ span_tokens s (tokens (spread rest))
tokens_of_span (listed_columns first cs) rest after h e =
    ap (λ (t : List ℕ). tokens (spread t)) (listed_regrouped (decimal first) (join_with_byte 32 (map column_text cs)) rest)
    ∙ token_read (decimal first) (codes " [" ++ (join_with_byte 32 (map column_text cs) ++ (93 ∷ rest))) (spread (codes "[" ++ (join_with_byte 32 (map column_text cs) ++ (93 ∷ rest)))) (decimal_token first h.0) refl
    ∙ ap (λ (ts : List (List ℕ)). decimal first ∷ codes "[" ∷ ts) (tokens_of_list cs rest h.1)
tokens_of_span (same_columns first last c) rest after h e =
    ap (λ (t : List ℕ). tokens (spread t)) (three_regrouped (decimal first) (decimal last) (column_text c) rest)
    ∙ token_read (decimal first) (32 ∷ (decimal last ++ (32 ∷ (column_text c ++ rest)))) (spread (decimal last ++ (32 ∷ (column_text c ++ rest)))) (decimal_token first h.0) refl
    ∙ ap (λ (ts : List (List ℕ)). decimal first ∷ ts) (token_read (decimal last) (32 ∷ (column_text c ++ rest)) (spread (column_text c ++ rest)) (decimal_token last h.1) refl)
    ∙ ap (λ (ts : List (List ℕ)). decimal first ∷ decimal last ∷ ts) (tokens_of_column c rest after h.2 e)

-- ---- the tokens of all parts

abbrev pub AreSmallSpans : List Span → Type 0
AreSmallSpans [] = Unit {0}
AreSmallSpans (s ∷ ss) = IsSmallSpan s × AreSmallSpans ss

abbrev all_tokens : List Span → List (List ℕ)
all_tokens [] = codes "]" ∷ []
all_tokens (s ∷ ss) = span_tokens s (all_tokens ss)

spaced_spans : (ss : List Span) → AreSmallSpans ss → tokens (spread (spaced (map span_text ss) ++ codes "]")) ≡ all_tokens ss
spaced_spans [] h = refl
spaced_spans (s ∷ ss) h =
    let following = after_column (map span_text ss) [] in
    ap (λ (t : List ℕ). tokens (spread (32 ∷ t))) (append_assoc (span_text s) (spaced (map span_text ss)) (codes "]"))
    ∙ tokens_of_span s (spaced (map span_text ss) ++ codes "]") following.0 h.0 following.1
    ∙ ap (λ (ts : List (List ℕ)). span_tokens s ts) (spaced_spans ss h.1)

joined_spans : (ss : List Span) → AreSmallSpans ss → tokens (spread (join_with_byte 32 (map span_text ss) ++ codes "]")) ≡ all_tokens ss
joined_spans [] h = refl
joined_spans (s ∷ ss) h =
    ap (λ (t : List ℕ). tokens (spread (t ++ codes "]"))) (joined (span_text s) (map span_text ss)) ∙ spaced_spans (s ∷ ss) h

-- ---- what is read of them

first_read : (t : List ℕ) (ts : List (List ℕ)) (n : ℕ) → bytes_eq t (codes "]") ≡ false → number_in t ≡ Some n → spans_in between_spans (t ∷ ts) ≡ spans_in (past_first n) ts
first_read t ts n p q = rw (p, q) refl

last_read : (first : ℕ) (t : List ℕ) (ts : List (List ℕ)) (n : ℕ) → bytes_eq t (codes "[") ≡ false → number_in t ≡ Some n → spans_in (past_first first) (t ∷ ts) ≡ spans_in (after_last first n) ts
last_read first t ts n p q = rw (p, q) refl

three_read : (first last : ℕ) (t u v : List ℕ) (ts : List (List ℕ)) (c : Column) → integer_in t ≡ Some c.advance → integer_in u ≡ Some c.x → integer_in v ≡ Some c.y → spans_in (after_last first last) (t ∷ u ∷ v ∷ ts) ≡ option_map (λ ss. same_columns first last c ∷ ss) (spans_in between_spans ts)
three_read first last t u v ts c p q r = rw (p, q, r) refl

member_read : (first : ℕ) (cs : List Column) (t u v : List ℕ) (ts : List (List ℕ)) (c : Column) → bytes_eq t (codes "]") ≡ false → integer_in t ≡ Some c.advance → integer_in u ≡ Some c.x → integer_in v ≡ Some c.y → spans_in (on_list first cs) (t ∷ u ∷ v ∷ ts) ≡ spans_in (on_list first (cs ++ c ∷ [])) ts
member_read first cs t u v ts c b p q r = rw (b, p, q, r) refl

no_bracket_word : (n : ℕ) (bracket : List ℕ) → n < 2 ^ 64 → all_ascii_digits bracket ≡ false → bytes_eq (decimal n) bracket ≡ false
no_bracket_word n bracket l h = no_word (decimal n) bracket (decimal_digits n l) h

integer_word : (z : ℤ) → IsSmallInteger z → bytes_eq (signed_decimal z) (codes "]") ≡ false
integer_word (pos n) l = no_bracket_word n (codes "]") l refl
integer_word (negsuc n) l = refl

list_read : (first : ℕ) (front cs : List Column) (ts : List (List ℕ)) → AreSmallColumns cs → spans_in (on_list first front) (list_tokens cs ts) ≡ option_map (λ ss. listed_columns first (front ++ cs) ∷ ss) (spans_in between_spans ts)
list_read first front [] ts h = ap (λ (l : List Column). option_map (λ ss. listed_columns first l ∷ ss) (spans_in between_spans ts)) (sym (append-nil front))
list_read first front (c ∷ cs) ts h =
    member_read first front (signed_decimal c.advance) (signed_decimal c.x) (signed_decimal c.y) (list_tokens cs ts) c (integer_word c.advance h.0.advance) (integer_read c.advance h.0.advance) (integer_read c.x h.0.x) (integer_read c.y h.0.y)
    ∙ list_read first (front ++ c ∷ []) cs ts h.1
    ∙ ap (λ (l : List Column). option_map (λ ss. listed_columns first l ∷ ss) (spans_in between_spans ts)) (append_assoc front (c ∷ []) cs)

span_read : (s : Span) (ts : List (List ℕ)) → IsSmallSpan s → spans_in between_spans (span_tokens s ts) ≡ option_map (λ ss. s ∷ ss) (spans_in between_spans ts)
span_read (listed_columns first cs) ts h =
    first_read (decimal first) (codes "[" ∷ list_tokens cs ts) first (no_bracket_word first (codes "]") h.0 refl) (number_read first h.0)
    ∙ list_read first [] cs ts h.1
span_read (same_columns first last c) ts h =
    first_read (decimal first) (decimal last ∷ column_tokens c ts) first (no_bracket_word first (codes "]") h.0 refl) (number_read first h.0)
    ∙ last_read first (decimal last) (column_tokens c ts) last (no_bracket_word last (codes "[") h.1 refl) (number_read last h.1)
    ∙ three_read first last (signed_decimal c.advance) (signed_decimal c.x) (signed_decimal c.y) ts c (integer_read c.advance h.2.advance) (integer_read c.x h.2.x) (integer_read c.y h.2.y)

all_read : (ss : List Span) → AreSmallSpans ss → spans_in between_spans (all_tokens ss) ≡ Some ss
all_read [] h = refl
all_read (s ∷ ss) h = span_read s (all_tokens ss) h.0 ∙ ap (λ (o : Option (List Span)). option_map (λ fs. s ∷ fs) o) (all_read ss h.1)

pub columns_read : (ss : List Span) → AreSmallSpans ss → spans_of (tokens (spread (columns_text ss))) ≡ Some ss
columns_read ss h = ap (λ (ts : List (List ℕ)). spans_in between_spans ts) (joined_spans ss h) ∙ all_read ss h
