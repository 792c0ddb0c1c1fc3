-- Stretches of a charstring, longer by a number of 65536ths.
use Rattle.std.proofs.Common.{◌≡◌, ℕ, suc, ◌+◌, ◌*◌, ◌/◌, ◌%◌, ◌<◌, List, [], ◌∷◌, ◌++◌, length, take, drop, get_or, Some, refl, sym, ap, ◌∙◌, arith, w32, to_z, drop-cons}
use Rattle.std.proofs.lemmas.Int.{of_z-to_z}
use Rattle.std.proofs.Math.Seq.{take-add}
use Rattle.subsetter_cffdata.specs.declared.numerals.charstring_number.CharStringNumber.TheVariants.{Fixed}
use Rattle.subsetter_cffdata.specs.Numerals.CharStringNumber.{number_at, written}
use Rattle.subsetter_type2.specs.Stretches.Stretch.{Extends}
use Rattle.subsetter_type2.specs.declared.stretches.stretch.Stretch.{Stretch}
use Rattle.subsetter_type2.proofs.StretchesLaws.Stretches.{comes_by_number}

-- the bits of four bytes
abbrev bits_of : ℕ → ℕ → ℕ → ℕ → ℕ
bits_of a b c d = a * 16777216 + b * 65536 + c * 256 + d

fixed_at : (a b c d : ℕ) (rest : List ℕ) → number_at (255 ∷ a ∷ b ∷ c ∷ d ∷ rest) ≡ Some (Fixed (to_z w32 (bits_of a b c d)), rest)
unfolding number_at
fixed_at a b c d rest = refl

written_bits : (bits : ℕ) → bits < 4294967296 → written (Fixed (to_z w32 bits)) ≡ 255 ∷ bits / 16777216 ∷ (bits / 65536 % 256) ∷ (bits / 256 % 256) ∷ bits % 256 ∷ []
unfolding written
written_bits bits lt = ap (λ (n : ℕ). 255 ∷ n / 16777216 ∷ (n / 65536 % 256) ∷ (n / 256 % 256) ∷ n % 256 ∷ []) (of_z-to_z w32 bits lt)

-- four bytes are written again as they are
fixed_written : (a b c d : ℕ) → a < 256 → b < 256 → c < 256 → d < 256 → written (Fixed (to_z w32 (bits_of a b c d))) ≡ 255 ∷ a ∷ b ∷ c ∷ d ∷ []
fixed_written a b c d ha hb hc hd =
    let first : bits_of a b c d / 16777216 ≡ a = omega arith in
    let second : bits_of a b c d / 65536 % 256 ≡ b = omega arith in
    let third : bits_of a b c d / 256 % 256 ≡ c = omega arith in
    let fourth : bits_of a b c d % 256 ≡ d = omega arith in
    written_bits (bits_of a b c d) (omega arith)
    ∙ ap (λ (x : ℕ). 255 ∷ x ∷ (bits_of a b c d / 65536 % 256) ∷ (bits_of a b c d / 256 % 256) ∷ bits_of a b c d % 256 ∷ []) first
    ∙ ap (λ (x : ℕ). 255 ∷ a ∷ x ∷ (bits_of a b c d / 256 % 256) ∷ bits_of a b c d % 256 ∷ []) second
    ∙ ap (λ (x : ℕ). 255 ∷ a ∷ b ∷ x ∷ bits_of a b c d % 256 ∷ []) third
    ∙ ap (λ (x : ℕ). 255 ∷ a ∷ b ∷ c ∷ x ∷ []) fourth

-- a byte, and those after it
byte_here : (l : List ℕ) (k i : ℕ) → suc k ≡ i → k < length l → drop k l ≡ get_or l k 0 ∷ drop i l
byte_here l k i e lt = drop-cons l k 0 lt ∙ ap (λ (n : ℕ). get_or l k 0 ∷ drop n l) e

five_here : (l : List ℕ) (k : ℕ) → k + 4 < length l → drop k l ≡ get_or l k 0 ∷ get_or l (k + 1) 0 ∷ get_or l (k + 2) 0 ∷ get_or l (k + 3) 0 ∷ get_or l (k + 4) 0 ∷ drop (k + 5) l
five_here l k lt =
    let fifth = byte_here l (k + 4) (k + 5) (omega arith) lt in
    let fourth = byte_here l (k + 3) (k + 4) (omega arith) (omega arith) ∙ ap (λ (t : List ℕ). get_or l (k + 3) 0 ∷ t) fifth in
    let third = byte_here l (k + 2) (k + 3) (omega arith) (omega arith) ∙ ap (λ (t : List ℕ). get_or l (k + 2) 0 ∷ t) fourth in
    let second = byte_here l (k + 1) (k + 2) (omega arith) (omega arith) ∙ ap (λ (t : List ℕ). get_or l (k + 1) 0 ∷ t) third in
    byte_here l k (k + 1) (omega arith) (omega arith) ∙ ap (λ (t : List ℕ). get_or l k 0 ∷ t) second

pub extends_fixed : (charstring : List ℕ) (mask_len : ℕ) (s longer : Stretch) → longer ≡ record { len = s.len + 5; tokens = s.tokens + 1; settled = s.settled; count = s.count + 1; last = s.len } → s.len + 4 < length charstring → get_or charstring s.len 0 ≡ 255
    → get_or charstring (s.len + 1) 0 < 256 → get_or charstring (s.len + 2) 0 < 256 → get_or charstring (s.len + 3) 0 < 256 → get_or charstring (s.len + 4) 0 < 256 → s.count < 48
    → Extends charstring mask_len s longer
extends_fixed charstring mask_len s longer is inside first ha hb hc hd few =
    let a = get_or charstring (s.len + 1) 0 in
    let b = get_or charstring (s.len + 2) 0 in
    let c = get_or charstring (s.len + 3) 0 in
    let d = get_or charstring (s.len + 4) 0 in
    let rest = drop (s.len + 5) charstring in
    let n = Fixed (to_z w32 (bits_of a b c d)) in
    let here : drop s.len charstring ≡ 255 ∷ a ∷ b ∷ c ∷ d ∷ rest = five_here charstring s.len inside ∙ ap (λ (x : ℕ). x ∷ a ∷ b ∷ c ∷ d ∷ rest) first in
    let t : take (s.len + 5) charstring ≡ take s.len charstring ++ written n =
    take-add s.len 5 charstring ∙ ap (λ (l : List ℕ). take s.len charstring ++ take 5 l) here ∙ ap (λ (l : List ℕ). take s.len charstring ++ l) (sym (fixed_written a b c d ha hb hc hd)) in
    rw is (record { step = λ bytes settled w h. comes_by_number charstring mask_len bytes settled w s h (omega arith) n 5 (ap number_at here ∙ fixed_at a b c d rest) t few })
