-- Characters that a PostScript name may have.
use Rattle.std.proofs.Common.{◌≡◌, ℕ, zero, suc, ◌+◌, ◌/◌, ◌%◌, ◌<◌, Bool, true, false, List, [], ◌∷◌, refl, arith}
use Rattle.std.specs.Prelude.{◌&&◌, ◌||◌, ◌==◌, not, if◌then◌else◌, nat_lt, All, decimal}
use Rattle.std.specs.Char.{is_ascii_alphanumeric}
use Rattle.std.specs.Fmt.{digits, digits_onto, digit_glyph}
use Rattle.std.proofs.lemmas.List.Elements.{All-nil, All-cons, All-weaker, filter_passes}
use Rattle.std.proofs.lemmas.Bool.Decides.{nat_tests}
use borrow.Author.Count.{below_more}
use Rattle.pdf_text.specs.SubsetName.{digest, letters, tag_of}
use Rattle.pdf_values.specs.Name.{is_name_character}
use Rattle.pdf_names.specs.Letters.{letters_and_digits}

abbrev pub Passes : ℕ → Type 0
Passes b = is_name_character b ≡ true

-- ---- tests of every number below a bound

all_below : (ℕ → Bool) → ℕ → Bool
all_below p zero = true
all_below p (suc n) = p n && all_below p n

first : (a b : Bool) → (a && b) ≡ true → a ≡ true
first true b h = refl
first false b h = absurd cc

second : (a b : Bool) → (a && b) ≡ true → b ≡ true
second true b h = h
second false b h = absurd cc

below_holds : (p : ℕ → Bool) (n : ℕ) → all_below p n ≡ true → (b : ℕ) → b < n → p b ≡ true
unfolding all_below
below_holds p zero h b l = absurd (omega arith)
below_holds p (suc n) h b l = below_more (λ k. p k ≡ true) n (below_holds p n (second (p n) (all_below p n) h)) (first (p n) (all_below p n) h) b (omega arith)

follows : (a b : Bool) → (not a || b) ≡ true → a ≡ true → b ≡ true
follows true b h e = h
follows false b h e = absurd cc

-- ---- letters and digits

is_low : (b : ℕ) → is_ascii_alphanumeric b ≡ true → b < 128
is_low b h = grind (arith, nat_tests)

alphanumeric_passes : (b : ℕ) → is_ascii_alphanumeric b ≡ true → Passes b
unfolding all_below
alphanumeric_passes b h = follows (is_ascii_alphanumeric b) (is_name_character b) (below_holds (λ c. not (is_ascii_alphanumeric c) || is_name_character c) 128 refl b (is_low b h)) h

pub letters_pass : (text : List ℕ) → All Passes (letters_and_digits text)
letters_pass text = All-weaker (λ b. is_ascii_alphanumeric b ≡ true) Passes alphanumeric_passes (letters_and_digits text) (filter_passes is_ascii_alphanumeric text)

pub digit_passes : (d : ℕ) → d < 10 → Passes (48 + d)
unfolding all_below
digit_passes d l = below_holds (λ c. is_name_character (48 + c)) 10 refl d l

capital_passes : (d : ℕ) → d < 26 → Passes (65 + d)
unfolding all_below
capital_passes d l = below_holds (λ c. is_name_character (65 + c)) 26 refl d l

capitals_pass : (k n : ℕ) → All Passes (letters k n)
capitals_pass zero n = All-nil Passes
capitals_pass (suc k) n = All-cons Passes (65 + n % 26) (letters k (n / 26)) (capital_passes (n % 26) (omega arith)) (capitals_pass k (n / 26))

pub tag_passes : (text : List ℕ) → All Passes (tag_of text)
tag_passes text = capitals_pass 6 (digest text)

-- ---- decimal numbers

glyph_passes : (d : ℕ) (t : Bool) → d < 10 → nat_lt d 10 ≡ t → Passes (if t then 48 + d else 87 + d)
glyph_passes d true l e = digit_passes d l
glyph_passes d false l e = absurd (grind (arith, nat_tests))

last_passes : (n : ℕ) → Passes (digit_glyph false (n % 10))
last_passes n = glyph_passes (n % 10) (nat_lt (n % 10) 10) (omega arith) refl

chosen : (t : Bool) (xs ys : List ℕ) → All Passes xs → All Passes ys → All Passes (if t then xs else ys)
chosen true xs ys p q = p
chosen false xs ys p q = q

onto_passes : (k n : ℕ) (acc : List ℕ) → All Passes acc → All Passes (digits_onto k 10 false n acc)
onto_passes zero n acc h = h
onto_passes (suc k) n acc h =
    let more : All Passes (digit_glyph false (n % 10) ∷ acc) = All-cons Passes (digit_glyph false (n % 10)) acc (last_passes n) h in
    chosen (n / 10 == 0) (digit_glyph false (n % 10) ∷ acc) (digits_onto k 10 false (n / 10) (digit_glyph false (n % 10) ∷ acc)) more (onto_passes k (n / 10) (digit_glyph false (n % 10) ∷ acc) more)

pub decimal_passes : (n : ℕ) → All Passes (decimal n)
unfolding digits
decimal_passes n = onto_passes 64 n [] (All-nil Passes)
