-- The tokens of what is written.
use Rattle.std.proofs.Common.{◌≡◌, ℕ, ◌+◌, ◌/◌, ◌%◌, ◌^◌, ◌<◌, Bool, true, false, List, [], ◌∷◌, ◌++◌, length, refl, ap, ◌∙◌, append_assoc, arith}
use Rattle.std.specs.Prelude.{◌&&◌, nat_lt, if◌then◌else◌, not, All, codes, decimal}
use Rattle.std.specs.Str.{bytes_eq}
use Rattle.std.proofs.lemmas.List.Elements.{All-nil, All-cons, All-append, All-head, All-tail}
use Rattle.subsetter_base.proofs.Lists.{and_parts}
use Rattle.pdf_text.specs.Cmaps.Blocks.{Row, row_text, rows_text, block}
use Rattle.pdf_text.specs.Cmaps.Cmap.{digit, words, hex_string, front}
use Rattle.pdf_text.specs.Cmaps.Encoding.{encoding_front}
use Rattle.pdf_text.specs.Tokens.{is_white, tokens}
use Rattle.pdf_text.proofs.TokenLaws.Tokens.{IsDark, dark, first_token, digits_dark, decimal_digits, decimal_some}

-- ---- what the tokens are made of

digit_by : (n : ℕ) (b : Bool) → is_white (if b then 48 + n else 55 + n) ≡ false
digit_by n true = dark (48 + n) (omega arith)
digit_by n false = dark (55 + n) (omega arith)

digit_dark : (n : ℕ) → IsDark (digit n)
digit_dark n = digit_by n (nat_lt n 10)

four_dark : (a b c d : ℕ) (more : List ℕ) → IsDark a → IsDark b → IsDark c → IsDark d → All IsDark more → All IsDark (a ∷ b ∷ c ∷ d ∷ more)
four_dark a b c d more p q r s h =
    All-cons IsDark a (b ∷ c ∷ d ∷ more) p (All-cons IsDark b (c ∷ d ∷ more) q (All-cons IsDark c (d ∷ more) r (All-cons IsDark d more s h)))

words_dark : (us more : List ℕ) → All IsDark more → All IsDark (words us ++ more)
words_dark [] more h = h
words_dark (u ∷ us) more h =
    four_dark (digit (u / 4096 % 16)) (digit (u / 256 % 16)) (digit (u / 16 % 16)) (digit (u % 16)) (words us ++ more)
    (digit_dark (u / 4096 % 16)) (digit_dark (u / 256 % 16)) (digit_dark (u / 16 % 16)) (digit_dark (u % 16)) (words_dark us more h)

pub hex_dark : (us : List ℕ) → All IsDark (hex_string us)
hex_dark us = All-cons IsDark 60 (words us ++ codes ">") refl (words_dark us (codes ">") (All-cons IsDark 62 [] refl (All-nil IsDark)))

-- ---- the tokens of a block

-- a line of two tokens
pub record IsRow (r : Row) : Type 0 where
  pub code : All IsDark r.code
  pub code_some : 0 < length r.code
  pub target : All IsDark r.target
  pub target_some : 0 < length r.target

regrouped : (a b rest : List ℕ) → (a ++ (codes " " ++ (b ++ codes "\n"))) ++ rest ≡ a ++ (codes " " ++ (b ++ (codes "\n" ++ rest)))
regrouped a b rest = append_assoc a (codes " " ++ (b ++ codes "\n")) rest ∙ ap (λ (l : List ℕ). a ++ (codes " " ++ l)) (append_assoc b (codes "\n") rest)

row_tokens : (r : Row) (rest : List ℕ) → IsRow r → tokens (row_text r ++ rest) ≡ r.code ∷ r.target ∷ tokens rest
row_tokens r rest h =
    ap tokens (regrouped r.code r.target rest)
    ∙ first_token r.code 32 (r.target ++ (codes "\n" ++ rest)) h.code h.code_some refl
    ∙ ap (λ (ts : List (List ℕ)). r.code ∷ ts) (first_token r.target 10 rest h.target h.target_some refl)

abbrev pub all_tokens : List Row → List (List ℕ)
all_tokens [] = []
all_tokens (r ∷ rs) = r.code ∷ r.target ∷ all_tokens rs

rows_tokens : (rs : List Row) (rest : List ℕ) → All IsRow rs → tokens (rows_text rs ++ rest) ≡ all_tokens rs ++ tokens rest
rows_tokens [] rest h = refl
rows_tokens (r ∷ rs) rest h =
    ap tokens (append_assoc (row_text r) (rows_text rs) rest) ∙ row_tokens r (rows_text rs ++ rest) (All-head IsRow r rs h)
    ∙ ap (λ (ts : List (List ℕ)). r.code ∷ r.target ∷ ts) (rows_tokens rs rest (All-tail IsRow r rs h))

block_regrouped : (a k b rest : List ℕ) → (a ++ (codes " begin" ++ (k ++ (codes "\n" ++ (b ++ (codes "end" ++ (k ++ codes "\n"))))))) ++ rest ≡ a ++ (codes " " ++ ((codes "begin" ++ k) ++ (codes "\n" ++ (b ++ ((codes "end" ++ k) ++ (codes "\n" ++ rest))))))
block_regrouped a k b rest = simp append_assoc

pub not_false : (b : Bool) → not b ≡ true → b ≡ false
not_false false h = refl
not_false true h = absurd cc

word_dark : (front k : List ℕ) → All IsDark front → All IsDark k → All IsDark (front ++ k)
word_dark front k f h = All-append IsDark front k f h

-- whether all bytes are above the blank
abbrev pub are_dark : List ℕ → Bool
are_dark [] = true
are_dark (b ∷ bs) = not (is_white b) && are_dark bs

pub all_dark : (t : List ℕ) → are_dark t ≡ true → All IsDark t
all_dark [] h = All-nil IsDark
all_dark (b ∷ t) h =
    let p = and_parts (not (is_white b)) (are_dark t) h in
    All-cons IsDark b t (not_false (is_white b) p.0) (all_dark t p.1)

pub block_tokens : (kind : List ℕ) (rs : List Row) (rest : List ℕ) → All IsDark kind → All IsRow rs → length rs < 2 ^ 64 → tokens (block kind rs ++ rest) ≡ decimal (length rs) ∷ (codes "begin" ++ kind) ∷ (all_tokens rs ++ ((codes "end" ++ kind) ∷ tokens rest))
block_tokens kind rs rest k h l =
    ap tokens (block_regrouped (decimal (length rs)) kind (rows_text rs) rest)
    ∙ first_token (decimal (length rs)) 32 ((codes "begin" ++ kind) ++ (codes "\n" ++ (rows_text rs ++ ((codes "end" ++ kind) ++ (codes "\n" ++ rest))))) (digits_dark (decimal (length rs)) (decimal_digits (length rs) l)) (decimal_some (length rs) l) refl
    ∙ ap (λ (ts : List (List ℕ)). decimal (length rs) ∷ ts) (first_token (codes "begin" ++ kind) 10 (rows_text rs ++ ((codes "end" ++ kind) ++ (codes "\n" ++ rest))) (word_dark (codes "begin") kind (all_dark (codes "begin") refl) k) (omega arith) refl)
    ∙ ap (λ (ts : List (List ℕ)). decimal (length rs) ∷ (codes "begin" ++ kind) ∷ ts)
    (rows_tokens rs ((codes "end" ++ kind) ++ (codes "\n" ++ rest)) h
    ∙ ap (λ (ts : List (List ℕ)). all_tokens rs ++ ts) (first_token (codes "end" ++ kind) 10 rest (word_dark (codes "end") kind (all_dark (codes "end") refl) k) (omega arith) refl))

-- ---- the tokens of the front

-- whether none of the tokens is a word
abbrev pub is_plain : List ℕ → List (List ℕ) → Bool
is_plain word [] = true
is_plain word (t ∷ ts) = not (bytes_eq t word) && is_plain word ts

pub front_words : List (List ℕ)
unfolding front
front_words = tokens front

pub front_tokens : (rest : List ℕ) → tokens (front ++ rest) ≡ front_words ++ tokens rest
unfolding front front_words
front_tokens rest = refl

pub front_is_plain : is_plain (codes "beginbfchar") front_words ≡ true
unfolding front front_words
front_is_plain = refl

pub encoding_words : Bool → List (List ℕ)
unfolding encoding_front
encoding_words vertical = tokens (encoding_front vertical)

pub encoding_tokens : (vertical : Bool) (rest : List ℕ) → tokens (encoding_front vertical ++ rest) ≡ encoding_words vertical ++ tokens rest
unfolding encoding_front encoding_words
encoding_tokens true rest = refl
encoding_tokens false rest = refl

pub encoding_is_plain : (vertical : Bool) → is_plain (codes "begincidchar") (encoding_words vertical) ≡ true
unfolding encoding_front encoding_words
encoding_is_plain true = refl
encoding_is_plain false = refl
