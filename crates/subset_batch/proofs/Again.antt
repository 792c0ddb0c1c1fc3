-- A string that is written is read again.
use Rattle.std.proofs.Common.{◌≡◌, ℕ, zero, suc, ◌+◌, ◌*◌, ◌/◌, ◌%◌, ◌<◌, ◌≤◌, inl, inr, Bool, true, false, cond, ◌||◌, eqb, ltb, List, [], ◌∷◌, ◌++◌, length, Some, None, Result, Ok, refl, sym, ap, subst, ◌∙◌, append_assoc, arith}
use Rattle.std.specs.Str.{is_utf8}
use Rattle.std.proofs.lemmas.Bool.{eqb-true, ltb-true, or_cases}
use Rattle.std.proofs.lemmas.Bool.Decides.{nat_tests}
use Rattle.std.proofs.lemmas.Str.{encode_ascii}
use Rattle.std.proofs.Math.Utf8.{low_scalar}
use Rattle.subset_batch.specs.declared.fault.Wanted.TheVariants.{Quote}
use Rattle.subset_batch.specs.Bytes.{following, escaped, hex_digit, is_high}
use Rattle.subset_batch.specs.Reading.{Fault, with_front, many, unit_at, unicode_at, char_at, goes_on, char_step, chars_at, string_at}
use Rattle.subset_batch.specs.Written.{hex_of, escaped_byte, escaped_text}

-- ---- a control character

hex_back : (d : ℕ) → d < 16 → hex_digit (hex_of d) ≡ Some d
unfolding hex_digit hex_of
hex_back zero h = refl
hex_back (suc zero) h = refl
hex_back (suc (suc zero)) h = refl
hex_back (suc (suc (suc zero))) h = refl
hex_back (suc (suc (suc (suc zero)))) h = refl
hex_back (suc (suc (suc (suc (suc zero))))) h = refl
hex_back (suc (suc (suc (suc (suc (suc zero)))))) h = refl
hex_back (suc (suc (suc (suc (suc (suc (suc zero))))))) h = refl
hex_back (suc (suc (suc (suc (suc (suc (suc (suc zero)))))))) h = refl
hex_back (suc (suc (suc (suc (suc (suc (suc (suc (suc zero))))))))) h = refl
hex_back (suc (suc (suc (suc (suc (suc (suc (suc (suc (suc zero)))))))))) h = refl
hex_back (suc (suc (suc (suc (suc (suc (suc (suc (suc (suc (suc zero))))))))))) h = refl
hex_back (suc (suc (suc (suc (suc (suc (suc (suc (suc (suc (suc (suc zero)))))))))))) h = refl
hex_back (suc (suc (suc (suc (suc (suc (suc (suc (suc (suc (suc (suc (suc zero))))))))))))) h = refl
hex_back (suc (suc (suc (suc (suc (suc (suc (suc (suc (suc (suc (suc (suc (suc zero)))))))))))))) h = refl
hex_back (suc (suc (suc (suc (suc (suc (suc (suc (suc (suc (suc (suc (suc (suc (suc zero))))))))))))))) h = refl
hex_back (suc (suc (suc (suc (suc (suc (suc (suc (suc (suc (suc (suc (suc (suc (suc (suc d)))))))))))))))) h = absurd (omega arith)

unit_back : (q r b : ℕ) (rest : List ℕ) → q < 16 → r < 16 → b ≡ q * 16 + r → unit_at (48 ∷ 48 ∷ hex_of q ∷ hex_of r ∷ rest) ≡ Ok (b, rest)
unfolding unit_at hex_digit
unit_back q r b rest hq hr e =
    let f : ℕ → Result (ℕ × List ℕ) Fault = λ n. Ok (n, rest) in
    let value : ((0 * 16 + 0) * 16 + q) * 16 + r ≡ b = omega arith in
    rw (hex_back q hq, hex_back r hr) (ap f value)

control_back : (b : ℕ) (rest : List ℕ) → b < 32 → unicode_at (48 ∷ 48 ∷ hex_of (b / 16) ∷ hex_of (b % 16) ∷ rest) ≡ Ok (b ∷ [], rest)
unfolding unicode_at
control_back b rest h =
    let unit = unit_back (b / 16) (b % 16) b rest (omega arith) (omega arith) (omega arith) in
    let high : is_high b ≡ false = grind (arith, nat_tests) in
    rw (unit, high, low_scalar b (omega arith), encode_ascii b (omega arith)) refl

-- ---- a byte of a string

or_false : (x y : Bool) → (x || y) ≡ false → (x ≡ false) × (y ≡ false)
or_false true y e = absurd cc
or_false false y e = (refl, e)

char_cases : (b : ℕ) (rest : List ℕ) (p q : Bool) → (eqb b 34 || eqb b 92) ≡ p → ltb b 32 ≡ q
    → char_at (cond p (92 ∷ b ∷ []) (cond q (92 ∷ 117 ∷ 48 ∷ 48 ∷ hex_of (b / 16) ∷ hex_of (b % 16) ∷ []) (b ∷ [])) ++ rest) ≡ Ok (b ∷ [], rest)
unfolding escaped
char_cases b rest true q hp hq = elim (or_cases (eqb b 34) (eqb b 92) hp) [
  | inl quote ↦ subst (λ (x : ℕ). char_at (92 ∷ x ∷ rest) ≡ Ok (x ∷ [], rest)) (sym (eqb-true b 34 quote)) refl
  | inr backslash ↦ subst (λ (x : ℕ). char_at (92 ∷ x ∷ rest) ≡ Ok (x ∷ [], rest)) (sym (eqb-true b 92 backslash)) refl
]
char_cases b rest false true hp hq = control_back b rest (ltb-true b 32 hq)
char_cases b rest false false hp hq =
    let p = or_false (eqb b 34) (eqb b 92) hp in
    rw (p.1, hq) refl

char_back : (b : ℕ) (rest : List ℕ) → char_at (escaped_byte b ++ rest) ≡ Ok (b ∷ [], rest)
char_back b rest = char_cases b rest (eqb b 34 || eqb b 92) (ltb b 32) refl refl

-- no quotation mark is first
open_cases : (b : ℕ) (rest : List ℕ) (p q : Bool) → (eqb b 34 || eqb b 92) ≡ p → ltb b 32 ≡ q
    → following 34 (cond p (92 ∷ b ∷ []) (cond q (92 ∷ 117 ∷ 48 ∷ 48 ∷ hex_of (b / 16) ∷ hex_of (b % 16) ∷ []) (b ∷ [])) ++ rest) ≡ None
open_cases b rest true q hp hq = refl
open_cases b rest false true hp hq = refl
open_cases b rest false false hp hq =
    let p = or_false (eqb b 34) (eqb b 92) hp in
    rw (p.0) refl

open_byte : (b : ℕ) (rest : List ℕ) → following 34 (escaped_byte b ++ rest) ≡ None
open_byte b rest = open_cases b rest (eqb b 34 || eqb b 92) (ltb b 32) refl refl

-- ---- a string

step_back : (b : ℕ) (rest : List ℕ) → char_step (escaped_byte b ++ rest) ≡ Ok (b ∷ [], (goes_on rest).0, (goes_on rest).1)
unfolding char_step
step_back b rest = rw (char_back b rest) refl

-- what is after the first byte of a string
regrouped : (b : ℕ) (t rest : List ℕ) → escaped_text (b ∷ t) ++ rest ≡ escaped_byte b ++ (escaped_text t ++ rest)
regrouped b t rest = append_assoc (escaped_byte b) (escaped_text t) rest

open_text : (b : ℕ) (t rest : List ℕ) → following 34 (escaped_text (b ∷ t) ++ rest) ≡ None
open_text b t rest = ap (following 34) (regrouped b t rest) ∙ open_byte b (escaped_text t ++ rest)

went_on : (bytes : List ℕ) → following 34 bytes ≡ None → goes_on bytes ≡ (true, bytes)
went_on bytes h = rw (h, goes_on) refl

more_chars : (b : ℕ) (bytes : List ℕ) (n : ℕ) → following 34 bytes ≡ None → many char_step Quote (suc n) (escaped_byte b ++ bytes) ≡ with_front (b ∷ []) (many char_step Quote n bytes)
unfolding many
more_chars b bytes n h =
    let f : Bool × List ℕ → Result (List ℕ × Bool × List ℕ) Fault = λ x. Ok (b ∷ [], x.0, x.1) in
    let step : char_step (escaped_byte b ++ bytes) ≡ Ok (b ∷ [], true, bytes) = step_back b bytes ∙ ap f (went_on bytes h) in
    rw step refl

last_char : (b : ℕ) (rest : List ℕ) (n : ℕ) → many char_step Quote (suc n) (escaped_byte b ++ (34 ∷ rest)) ≡ Ok (b ∷ [], rest)
unfolding many
last_char b rest n = rw (step_back b (34 ∷ rest)) refl

pub chars_back : (t : List ℕ) (b n : ℕ) (rest : List ℕ) → length t < n → many char_step Quote n (escaped_text (b ∷ t) ++ 34 ∷ rest) ≡ Ok (b ∷ t, rest)
chars_back t b zero rest h = absurd (omega arith)
chars_back [] b (suc n) rest h = ap (many char_step Quote (suc n)) (regrouped b [] (34 ∷ rest)) ∙ last_char b rest n
chars_back (c ∷ t) b (suc n) rest h =
    let tail = escaped_text (c ∷ t) ++ 34 ∷ rest in
    let others : many char_step Quote n tail ≡ Ok (c ∷ t, rest) = chars_back t c n rest (omega arith) in
    ap (many char_step Quote (suc n)) (regrouped b (c ∷ t) (34 ∷ rest)) ∙ more_chars b tail n (open_text c t (34 ∷ rest)) ∙ ap (with_front (b ∷ [])) others

-- at least a byte for each character, and one more
pub longer : (a b : List ℕ) → length b ≤ length (a ++ b)
longer [] b = omega arith
longer (x ∷ a) b = omega (arith, longer a b)

byte_cases : (b : ℕ) (rest : List ℕ) (p q : Bool) → length rest < length (cond p (92 ∷ b ∷ []) (cond q (92 ∷ 117 ∷ 48 ∷ 48 ∷ hex_of (b / 16) ∷ hex_of (b % 16) ∷ []) (b ∷ [])) ++ rest)
byte_cases b rest true q = omega arith
byte_cases b rest false true = omega arith
byte_cases b rest false false = omega arith

enough : (t rest : List ℕ) → length t < length (escaped_text t ++ 34 ∷ rest)
enough [] rest = omega arith
enough (b ∷ t) rest =
    let one : length (escaped_text t ++ 34 ∷ rest) < length (escaped_byte b ++ (escaped_text t ++ 34 ∷ rest)) = byte_cases b (escaped_text t ++ 34 ∷ rest) (eqb b 34 || eqb b 92) (ltb b 32) in
    omega (arith, enough t rest, one, ap length (regrouped b t (34 ∷ rest)))

pub all_chars_back : (t rest : List ℕ) → chars_at (escaped_text t ++ 34 ∷ rest) ≡ Ok (t, rest)
all_chars_back [] rest = refl
all_chars_back (b ∷ t) rest =
    let bytes = escaped_text (b ∷ t) ++ 34 ∷ rest in
    let more : many char_step Quote (length bytes) bytes ≡ Ok (b ∷ t, rest) = chars_back t b (length bytes) rest (omega (arith, enough (b ∷ t) rest)) in
    rw (open_text b t (34 ∷ rest), chars_at) more

pub string_back : (t rest : List ℕ) → is_utf8 t ≡ true → string_at (escaped_text t ++ 34 ∷ rest) ≡ Ok (t, rest)
unfolding string_at
string_back t rest h = rw (all_chars_back t rest, h) refl
