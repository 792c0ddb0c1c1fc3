-- The text of W says each width.
use Rattle.std.proofs.Common.{◌≡◌, ℕ, suc, zero, ◌+◌, ◌-◌, ◌^◌, ◌<◌, ◌≤◌, true, false, List, [], ◌∷◌, ◌++◌, length, map, take, refl, sym, ap, subst, ◌∙◌, ◌⊎◌, inl, inr, append_assoc, append-nil, arith}
use Rattle.std.specs.Prelude.{◌==◌, ◌||◌, All, Option, Some, codes, decimal}
use Rattle.std.specs.Option.{option_map}
use Rattle.std.specs.List.{join_with_byte}
use Rattle.std.specs.Char.{is_ascii_digit}
use Rattle.std.specs.Str.{all_ascii_digits, bytes_eq}
use Rattle.std.proofs.lemmas.List.Elements.{All-cons, All-head, All-tail, All-take}
use Rattle.std.proofs.lemmas.Bool.Decides.{nat_tests}
use Rattle.subsetter_base.proofs.Lists.{and_parts}
use Rattle.pdf_text.specs.Tokens.{tokens, number_in}
use Rattle.pdf_text.specs.Metrics.Arrays.{Entry, each, same, entry_text, array_text, run, listed, opened, more, entries_from, spread, between, begun, ranged, listing, entries_in, array_in, AreAtMost}
use Rattle.pdf_text.proofs.TokenLaws.Tokens.{first_token, digits_dark, decimal_digits, decimal_some, number_read, no_word}
use Rattle.pdf_text.proofs.MetricsLaws.WidthLaws.Read.{Opens, none, many, list, opens, run_size, listed_size, listed_or_not, taken_size}
use Rattle.subsetter_base.proofs.TextLemmas.{spaced, joined}

-- ---- numbers among brackets

no_bracket : (c : ℕ) → is_ascii_digit c ≡ true → (c == 91 || c == 93) ≡ false
no_bracket c h = grind (arith, nat_tests)

as_it_is : (c : ℕ) (bs : List ℕ) → (c == 91 || c == 93) ≡ false → spread (c ∷ bs) ≡ c ∷ spread bs
as_it_is c bs e = rw e refl

spread_digits : (t rest : List ℕ) → all_ascii_digits t ≡ true → spread (t ++ rest) ≡ t ++ spread rest
spread_digits [] rest h = refl
spread_digits (c ∷ t) rest h =
    let p = and_parts (is_ascii_digit c) (all_ascii_digits t) h in
    as_it_is c (t ++ rest) (no_bracket c p.0) ∙ ap (λ (l : List ℕ). c ∷ l) (spread_digits t rest p.1)

number_token : (n : ℕ) (rest after : List ℕ) → n < 2 ^ 64 → spread rest ≡ 32 ∷ after → tokens (spread (decimal n ++ rest)) ≡ decimal n ∷ tokens (spread rest)
number_token n rest after l e =
    ap tokens (spread_digits (decimal n) rest (decimal_digits n l) ∙ ap (λ (t : List ℕ). decimal n ++ t) e)
    ∙ first_token (decimal n) 32 after (digits_dark (decimal n) (decimal_digits n l)) (decimal_some n l) refl
    ∙ ap (λ (t : List ℕ). decimal n ∷ tokens t) (sym e)

-- ---- the tokens of a list

abbrev pub AreSmall : List ℕ → Type 0
AreSmall ws = All (λ w. w < 2 ^ 64) ws

-- what comes after a number on a list
past_number : (ts : List (List ℕ)) (rest : List ℕ) → (after : List ℕ) × (spread (spaced ts ++ (93 ∷ rest)) ≡ 32 ∷ after)
past_number [] rest = (93 ∷ 32 ∷ spread rest, refl)
past_number (t ∷ ts) rest = (spread ((t ++ spaced ts) ++ (93 ∷ rest)), refl)

spaced_tokens : (ws rest : List ℕ) → AreSmall ws → tokens (spread (spaced (map decimal ws) ++ (93 ∷ rest))) ≡ map decimal ws ++ (codes "]" ∷ tokens (spread rest))
spaced_tokens [] rest h = refl
spaced_tokens (w ∷ ws) rest h =
    let following = past_number (map decimal ws) rest in
    ap (λ (t : List ℕ). tokens (spread (32 ∷ t))) (append_assoc (decimal w) (spaced (map decimal ws)) (93 ∷ rest))
    ∙ number_token w (spaced (map decimal ws) ++ (93 ∷ rest)) following.0 (All-head (λ v. v < 2 ^ 64) w ws h) following.1
    ∙ ap (λ (ts : List (List ℕ)). decimal w ∷ ts) (spaced_tokens ws rest (All-tail (λ v. v < 2 ^ 64) w ws h))

list_tokens : (ws rest : List ℕ) → AreSmall ws → tokens (spread (join_with_byte 32 (map decimal ws) ++ (93 ∷ rest))) ≡ map decimal ws ++ (codes "]" ∷ tokens (spread rest))
list_tokens [] rest h = refl
list_tokens (w ∷ ws) rest h =
    ap (λ (t : List ℕ). tokens (spread (t ++ (93 ∷ rest)))) (joined (decimal w) (map decimal ws)) ∙ spaced_tokens (w ∷ ws) rest h

-- ---- the tokens of an entry

abbrev pub IsSmall : Entry → Type 0
IsSmall (each first ws) = (first < 2 ^ 64) × AreSmall ws
IsSmall (same first last w) = (first < 2 ^ 64) × (last < 2 ^ 64) × (w < 2 ^ 64)

abbrev tokens_before : Entry → List (List ℕ) → List (List ℕ)
tokens_before (each first ws) ts = decimal first ∷ codes "[" ∷ (map decimal ws ++ (codes "]" ∷ ts))
tokens_before (same first last w) ts = decimal first ∷ decimal last ∷ decimal w ∷ ts

each_regrouped : (a b rest : List ℕ) → (a ++ (codes " [" ++ (b ++ codes "]"))) ++ rest ≡ a ++ (codes " [" ++ (b ++ (93 ∷ rest)))
each_regrouped a b rest = append_assoc a (codes " [" ++ (b ++ codes "]")) rest ∙ ap (λ (l : List ℕ). a ++ (codes " [" ++ l)) (append_assoc b (codes "]") rest)

same_regrouped : (a b c rest : List ℕ) → (a ++ (codes " " ++ (b ++ (codes " " ++ c)))) ++ rest ≡ a ++ (codes " " ++ (b ++ (codes " " ++ (c ++ rest))))
same_regrouped a b c rest = append_assoc a (codes " " ++ (b ++ (codes " " ++ c))) rest ∙ ap (λ (l : List ℕ). a ++ (codes " " ++ l)) (append_assoc b (codes " " ++ c) rest)

entry_tokens : (e : Entry) (rest after : List ℕ) → IsSmall e → spread rest ≡ 32 ∷ after → tokens (spread (entry_text e ++ rest)) ≡ tokens_before e (tokens (spread rest))
entry_tokens (each first ws) rest after h e =
    ap (λ (t : List ℕ). tokens (spread t)) (each_regrouped (decimal first) (join_with_byte 32 (map decimal ws)) rest)
    ∙ number_token first (codes " [" ++ (join_with_byte 32 (map decimal ws) ++ (93 ∷ rest))) (spread (codes "[" ++ (join_with_byte 32 (map decimal ws) ++ (93 ∷ rest)))) h.0 refl
    ∙ ap (λ (ts : List (List ℕ)). decimal first ∷ codes "[" ∷ ts) (list_tokens ws rest h.1)
entry_tokens (same first last w) rest after h e =
    ap (λ (t : List ℕ). tokens (spread t)) (same_regrouped (decimal first) (decimal last) (decimal w) rest)
    ∙ number_token first (codes " " ++ (decimal last ++ (codes " " ++ (decimal w ++ rest)))) (spread (decimal last ++ (codes " " ++ (decimal w ++ rest)))) h.0 refl
    ∙ ap (λ (ts : List (List ℕ)). decimal first ∷ ts) (number_token last (codes " " ++ (decimal w ++ rest)) (spread (decimal w ++ rest)) h.1 refl)
    ∙ ap (λ (ts : List (List ℕ)). decimal first ∷ decimal last ∷ ts) (number_token w rest after h.2 e)

-- ---- the tokens of all entries

abbrev pub AllSmall : List Entry → Type 0
AllSmall [] = Unit {0}
AllSmall (e ∷ es) = IsSmall e × AllSmall es

abbrev all_tokens : List Entry → List (List ℕ)
all_tokens [] = codes "]" ∷ []
all_tokens (e ∷ es) = tokens_before e (all_tokens es)

spaced_entries : (es : List Entry) → AllSmall es → tokens (spread (spaced (map entry_text es) ++ codes "]")) ≡ all_tokens es
spaced_entries [] h = refl
spaced_entries (e ∷ es) h =
    let following = past_number (map entry_text es) [] in
    ap (λ (t : List ℕ). tokens (spread (32 ∷ t))) (append_assoc (entry_text e) (spaced (map entry_text es)) (codes "]"))
    ∙ entry_tokens e (spaced (map entry_text es) ++ codes "]") following.0 h.0 following.1
    ∙ ap (tokens_before e) (spaced_entries es h.1)

joined_entries : (es : List Entry) → AllSmall es → tokens (spread (join_with_byte 32 (map entry_text es) ++ codes "]")) ≡ all_tokens es
joined_entries [] h = refl
joined_entries (e ∷ es) h =
    ap (λ (t : List ℕ). tokens (spread (t ++ codes "]"))) (joined (entry_text e) (map entry_text es)) ∙ spaced_entries (e ∷ es) h

-- ---- what is read of the tokens of an entry

first_read : (t : List ℕ) (ts : List (List ℕ)) (n : ℕ) → bytes_eq t (codes "]") ≡ false → number_in t ≡ Some n → entries_in between (t ∷ ts) ≡ entries_in (begun n) ts
first_read t ts n p q = rw (p, q) refl

last_read : (first : ℕ) (t : List ℕ) (ts : List (List ℕ)) (n : ℕ) → bytes_eq t (codes "[") ≡ false → number_in t ≡ Some n → entries_in (begun first) (t ∷ ts) ≡ entries_in (ranged first n) ts
last_read first t ts n p q = rw (p, q) refl

width_read : (first last : ℕ) (t : List ℕ) (ts : List (List ℕ)) (n : ℕ) → number_in t ≡ Some n → entries_in (ranged first last) (t ∷ ts) ≡ option_map (λ es. same first last n ∷ es) (entries_in between ts)
width_read first last t ts n q = rw q refl

member_read : (first : ℕ) (ws : List ℕ) (t : List ℕ) (ts : List (List ℕ)) (n : ℕ) → bytes_eq t (codes "]") ≡ false → number_in t ≡ Some n → entries_in (listing first ws) (t ∷ ts) ≡ entries_in (listing first (ws ++ n ∷ [])) ts
member_read first ws t ts n p q = rw (p, q) refl

no_bracket_word : (n : ℕ) (bracket : List ℕ) → n < 2 ^ 64 → all_ascii_digits bracket ≡ false → bytes_eq (decimal n) bracket ≡ false
no_bracket_word n bracket l h = no_word (decimal n) bracket (decimal_digits n l) h

list_read : (first : ℕ) (front ws : List ℕ) (ts : List (List ℕ)) → AreSmall ws → entries_in (listing first front) (map decimal ws ++ (codes "]" ∷ ts)) ≡ option_map (λ es. each first (front ++ ws) ∷ es) (entries_in between ts)
list_read first front [] ts h = ap (λ (l : List ℕ). option_map (λ es. each first l ∷ es) (entries_in between ts)) (sym (append-nil front))
list_read first front (w ∷ ws) ts h =
    let small : w < 2 ^ 64 = All-head (λ v. v < 2 ^ 64) w ws h in
    member_read first front (decimal w) (map decimal ws ++ (codes "]" ∷ ts)) w (no_bracket_word w (codes "]") small refl) (number_read w small)
    ∙ list_read first (front ++ w ∷ []) ws ts (All-tail (λ v. v < 2 ^ 64) w ws h)
    ∙ ap (λ (l : List ℕ). option_map (λ es. each first l ∷ es) (entries_in between ts)) (append_assoc front (w ∷ []) ws)

entry_read : (e : Entry) (ts : List (List ℕ)) → IsSmall e → entries_in between (tokens_before e ts) ≡ option_map (λ es. e ∷ es) (entries_in between ts)
entry_read (each first ws) ts h =
    first_read (decimal first) (codes "[" ∷ (map decimal ws ++ (codes "]" ∷ ts))) first (no_bracket_word first (codes "]") h.0 refl) (number_read first h.0)
    ∙ list_read first [] ws ts h.1
entry_read (same first last w) ts h =
    first_read (decimal first) (decimal last ∷ decimal w ∷ ts) first (no_bracket_word first (codes "]") h.0 refl) (number_read first h.0)
    ∙ last_read first (decimal last) (decimal w ∷ ts) last (no_bracket_word last (codes "[") h.1 refl) (number_read last h.1)
    ∙ width_read first last (decimal w) ts w (number_read w h.2)

all_read : (es : List Entry) → AllSmall es → entries_in between (all_tokens es) ≡ Some es
all_read [] h = refl
all_read (e ∷ es) h = entry_read e (all_tokens es) h.0 ∙ ap (λ (o : Option (List Entry)). option_map (λ fs. e ∷ fs) o) (all_read es h.1)

pub array_read : (es : List Entry) → AllSmall es → array_in (array_text es) ≡ Some es
array_read es h = ap (λ (ts : List (List ℕ)). entries_in between ts) (joined_entries es h) ∙ all_read es h

-- ---- the numbers are small

opened_small : (most first d w : ℕ) (ws : List ℕ) (es : List Entry) → first + suc (length ws) < 2 ^ 64 → AreSmall (w ∷ ws) → AllSmall es → Opens most first d w ws → AllSmall (opened most first d w ws ++ es)
opened_small most first d w ws es l h k (none _ e _) = subst (λ (o : List Entry). AllSmall (o ++ es)) (sym e) k
opened_small most first d w ws es l h k (many e _) =
    let size : run w ws ≤ length ws = run_size w ws in
    subst (λ (o : List Entry). AllSmall (o ++ es)) (sym e) ((omega arith, omega arith, All-head (λ v. v < 2 ^ 64) w ws h), k)
opened_small most first d w ws es l h k (list e _) =
    subst (λ (o : List Entry). AllSmall (o ++ es)) (sym e)
    ((omega arith, All-cons (λ v. v < 2 ^ 64) w (take (listed most d ws) ws) (All-head (λ v. v < 2 ^ 64) w ws h) (All-take (λ v. v < 2 ^ 64) (listed most d ws) ws (All-tail (λ v. v < 2 ^ 64) w ws h))), k)

pub entries_small : (most : ℕ) (ws : List ℕ) (first d settled : ℕ) → first + length ws < 2 ^ 64 → AreSmall ws → AllSmall (entries_from most first d settled ws)
entries_small most [] first d settled l h = tt
entries_small most (w ∷ ws) first d (suc settled) l h = entries_small most ws (first + 1) d settled (omega arith) (All-tail (λ v. v < 2 ^ 64) w ws h)
entries_small most (w ∷ ws) first d zero l h =
    opened_small most first d w ws (entries_from most (first + 1) d (more most d w ws) ws) l h
    (entries_small most ws (first + 1) d (more most d w ws) (omega arith) (All-tail (λ v. v < 2 ^ 64) w ws h)) (opens most first d w ws)

-- ---- no list is long

most_listed_step : (most d w : ℕ) (ws : List ℕ) → listed (most - 1) d ws ≤ most - 1 → (listed most d (w ∷ ws) ≡ 0) ⊎ ((0 < most) × (listed most d (w ∷ ws) ≡ suc (listed (most - 1) d ws))) → listed most d (w ∷ ws) ≤ most
most_listed_step most d w ws l (inl e) = omega arith
most_listed_step most d w ws l (inr (p, e)) = omega arith

most_listed : (most d : ℕ) (ws : List ℕ) → listed most d ws ≤ most
most_listed most d [] = omega arith
most_listed most d (w ∷ ws) = most_listed_step most d w ws (most_listed (most - 1) d ws) (listed_or_not most d w ws _ refl)

opened_short : (most first d w : ℕ) (ws : List ℕ) (es : List Entry) → AreAtMost (most + 1) es → Opens most first d w ws → AreAtMost (most + 1) (opened most first d w ws ++ es)
opened_short most first d w ws es k (none _ e _) = subst (λ (o : List Entry). AreAtMost (most + 1) (o ++ es)) (sym e) k
opened_short most first d w ws es k (many e _) = subst (λ (o : List Entry). AreAtMost (most + 1) (o ++ es)) (sym e) k
opened_short most first d w ws es k (list e _) =
    let size : length (take (listed most d ws) ws) ≡ listed most d ws = taken_size (listed most d ws) ws (listed_size most d ws) in
    let bound : listed most d ws ≤ most = most_listed most d ws in
    subst (λ (o : List Entry). AreAtMost (most + 1) (o ++ es)) (sym e) (omega arith, k)

pub entries_short : (most : ℕ) (ws : List ℕ) (first d settled : ℕ) → AreAtMost (most + 1) (entries_from most first d settled ws)
entries_short most [] first d settled = tt
entries_short most (w ∷ ws) first d (suc settled) = entries_short most ws (first + 1) d settled
entries_short most (w ∷ ws) first d zero = opened_short most first d w ws (entries_from most (first + 1) d (more most d w ws) ws) (entries_short most ws (first + 1) d (more most d w ws)) (opens most first d w ws)
