-- A number of k bytes that was written is read again.
use Rattle.std.proofs.Common.{◌≡◌, ℕ, ◌+◌, ◌-◌, ◌*◌, ◌^◌, ◌<◌, List, [], ◌∷◌, ◌++◌, length, Option, Some, None, refl, ap, sym, arith, length-append, take, drop, ◌∙◌, ltb, false, get_or}
use Rattle.std.proofs.lemmas.Bool.{le-ltb}
use Rattle.std.proofs.lemmas.Option.{some_pair_parts, none-some}
use Rattle.std.proofs.lemmas.List.{take_at, drop_at, drop-take, drop-drop}
use Rattle.std.specs.List.{slice_range}
use Rattle.std.specs.Int.{bytes_high_first}
use Rattle.subsetter_cffdata.specs.Bytes.{card, part, ReadAgain}
use Rattle.subsetter_base.specs.Bytes.{byte, be}

some_with : (rest : List ℕ) (m n : ℕ) → m ≡ n → ◌≡◌ {A = Option (ℕ × List ℕ)} (Some (m, rest)) (Some (n, rest))
some_with rest m n e = ap (λ (k : ℕ). Some (k, rest)) e

pub byte_again : (n : ℕ) → ReadAgain byte (n ∷ []) n
unfolding byte
byte_again n rest = refl

pub part_again : (p : List ℕ) (n : ℕ) → n ≡ length p → ReadAgain (part n) p p
unfolding part
part_again p n e rest = rw (le-ltb (length (p ++ rest)) n (omega (arith, length-append p rest)), take_at p rest n (sym e), drop_at p rest n (sym e)) refl

-- ---- a number is its bytes
pub be_bytes1 : (n : ℕ) → n < 256 → be (bytes_high_first 1 n) ≡ n
be_bytes1 n h = omega arith

pub be_bytes2 : (n : ℕ) → n < 65536 → be (bytes_high_first 2 n) ≡ n
be_bytes2 n h = omega arith

pub be_bytes3 : (n : ℕ) → n < 16777216 → be (bytes_high_first 3 n) ≡ n
be_bytes3 n h = omega arith

pub be_bytes4 : (n : ℕ) → n < 2 ^ 32 → be (bytes_high_first 4 n) ≡ n
be_bytes4 n h = omega arith

pub card_again : (k n : ℕ) → length (bytes_high_first k n) ≡ k → be (bytes_high_first k n) ≡ n → ReadAgain (card k) (bytes_high_first k n) n
unfolding card
card_again k n len is rest = rw (part_again (bytes_high_first k n) k (sym len) rest) (some_with rest _ _ is)

-- the number of bytes that were taken
pub card_of : (k : ℕ) (bytes p rest : List ℕ) → part k bytes ≡ Some (p, rest) → card k bytes ≡ Some (be p, rest)
unfolding card
card_of k bytes p rest e = rw e refl

pub no_card : (k : ℕ) (bytes : List ℕ) → part k bytes ≡ None → card k bytes ≡ None
unfolding card
no_card k bytes e = rw e refl

pub ruleset cards = (card_of, no_card)

-- ---- the second of two numbers that are side by side
pub second_half : (bytes : List ℕ) (i n size : ℕ) → n ≡ size → drop n (slice_range bytes (i * n) (i * n + 2 * n)) ≡ take size (drop ((i + 1) * size) bytes)
second_half bytes i n size same =
    let both : i * n + 2 * n - i * n ≡ n + n = omega arith in
    let next : i * n + n ≡ (i + 1) * n = omega arith in
    ap (λ k. drop n (take k (drop (i * n) bytes))) both
    ∙ drop-take n n (drop (i * n) bytes)
    ∙ ap (take n) (drop-drop n (i * n) bytes)
    ∙ ap (λ k. take n (drop k bytes)) next
    ∙ ap (λ k. take k (drop ((i + 1) * k) bytes)) same

-- ---- one byte
pub byte_one : (bytes p rest : List ℕ) → part 1 bytes ≡ Some (p, rest) → byte bytes ≡ Some (get_or p 0 0, rest)
unfolding byte part
byte_one [] p rest e = absurd cc
byte_one (a ∷ bytes) p rest e =
    let long : ltb (length (a ∷ bytes)) 1 ≡ false = le-ltb _ _ (omega arith) in
    let parts = some_pair_parts _ _ _ _ (rw long at e) in
    rw (← parts.0, ← parts.1) refl

pub no_byte : (bytes : List ℕ) → part 1 bytes ≡ None → byte bytes ≡ None
unfolding byte part
no_byte [] e = refl
no_byte (a ∷ bytes) e =
    let long : ltb (length (a ∷ bytes)) 1 ≡ false = le-ltb _ _ (omega arith) in
    absurd (none-some _ (sym (rw long at e)))

pub ruleset byte_of_part = (byte_one, no_byte)
