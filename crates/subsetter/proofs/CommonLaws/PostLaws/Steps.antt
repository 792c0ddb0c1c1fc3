-- Names of one length after each other.
use Rattle.std.proofs.Common.{◌≡◌, ℕ, zero, suc, ◌+◌, ◌*◌, ◌<◌, ◌≤◌, List, [], ◌∷◌, length, take, drop, cond, sym, ap, ◌∙◌, arith}
use Rattle.std.specs.Prelude.{get_or}
use Rattle.std.proofs.lemmas.Bool.{le-leb}
use Rattle.std.proofs.lemmas.List.{drop-drop, length-drop, drop_more}
use Rattle.subsetter.specs.Common.Post.Read.{pascal_strings, names_in}
use Rattle.subsetter.proofs.CommonLaws.PostLaws.Indexes.{enough}

pub first_gone : (len : ℕ) (rest : List ℕ) → len ≤ length rest → names_in (drop len rest) ≡ drop 1 (names_in (len ∷ rest))
first_gone len rest le =
    let split : names_in (len ∷ rest) ≡ take len rest ∷ pascal_strings (length rest) (drop len rest) = ap (λ b. cond b (take len rest ∷ pascal_strings (length rest) (drop len rest)) []) (le-leb _ _ le) in
    enough (length (drop len rest)) (length rest) (drop len rest) (omega arith) (omega (arith, length-drop len rest)) ∙ sym (ap (drop 1) split)

pub within : (n k step : ℕ) → k < n → k * step + step ≤ n * step
within zero k step lt = absurd (omega arith)
within (suc n) zero step lt = omega arith
within (suc n) (suc k) step lt = omega (arith, within n k step (omega arith))

-- after one more name of a length, where k such names come before
pub one_more_alike : (bytes : List ℕ) (len step k : ℕ) → step ≡ len + 1 → 8 * step ≤ length bytes → k < 8 → get_or bytes (k * step) 0 ≡ len → names_in (drop (k * step) bytes) ≡ drop k (names_in bytes) → names_in (drop ((k + 1) * step) bytes) ≡ drop (k + 1) (names_in bytes)
one_more_alike bytes len step k is room lt here before =
    let at = k * step in
    let below : at + step ≤ 8 * step = within 8 k step lt in
    let front : drop at bytes ≡ len ∷ drop (at + 1) bytes = drop_more bytes at 0 (omega (arith, below, room, is)) ∙ ap (λ (x : ℕ). x ∷ drop (at + 1) bytes) here in
    let following : drop len (drop (at + 1) bytes) ≡ drop ((k + 1) * step) bytes = drop-drop len (at + 1) bytes ∙ ap (λ (n : ℕ). drop n bytes) (sum k step len is) in
    ap names_in (sym following) ∙ first_gone len (drop (at + 1) bytes) (omega (arith, length-drop (at + 1) bytes, below, room, is)) ∙ ap (λ l. drop 1 (names_in l)) (sym front) ∙ ap (drop 1) before ∙ drop-drop 1 k (names_in bytes)
  where
    sum : (k step len : ℕ) → step ≡ len + 1 → k * step + 1 + len ≡ (k + 1) * step
    sum k step len is = grind arith

no_step : (step : ℕ) → 0 * step ≡ 0
no_step step = omega arith

one_step : (step : ℕ) → 1 * step ≡ step
one_step step = omega arith

-- `count` of eight names of a length are passed over, where eight looks a step apart find that length
pub eight_alike : (bytes : List ℕ) (len step count : ℕ) → step ≡ len + 1 → 8 * step ≤ length bytes → count ≤ 8 → ((k : ℕ) → k < 8 → get_or bytes (k * step) 0 ≡ len) → names_in (drop (count * step) bytes) ≡ drop count (names_in bytes)
eight_alike bytes len step zero is room le here = ap (λ (n : ℕ). names_in (drop n bytes)) (no_step step)
eight_alike bytes len step (suc k) is room le here =
    let more : k + 1 ≡ suc k = omega arith in
    ap (λ (n : ℕ). names_in (drop (n * step) bytes)) (sym more) ∙ one_more_alike bytes len step k is room (omega arith) (here k (omega arith)) (eight_alike bytes len step k is room (omega arith) here) ∙ ap (λ (n : ℕ). drop n (names_in bytes)) more

-- the same of eight looks in a row
pub eight_looks : (bytes : List ℕ) (len step : ℕ) → get_or bytes 0 0 ≡ len → get_or bytes step 0 ≡ len → get_or bytes (2 * step) 0 ≡ len → get_or bytes (3 * step) 0 ≡ len → get_or bytes (4 * step) 0 ≡ len → get_or bytes (5 * step) 0 ≡ len → get_or bytes (6 * step) 0 ≡ len → get_or bytes (7 * step) 0 ≡ len → (k : ℕ) → k < 8 → get_or bytes (k * step) 0 ≡ len
eight_looks bytes len step a b c d e f g h zero lt = ap (λ (n : ℕ). get_or bytes n 0) (no_step step) ∙ a
eight_looks bytes len step a b c d e f g h (suc zero) lt = ap (λ (n : ℕ). get_or bytes n 0) (one_step step) ∙ b
eight_looks bytes len step a b c d e f g h (suc (suc zero)) lt = c
eight_looks bytes len step a b c d e f g h (suc (suc (suc zero))) lt = d
eight_looks bytes len step a b c d e f g h (suc (suc (suc (suc zero)))) lt = e
eight_looks bytes len step a b c d e f g h (suc (suc (suc (suc (suc zero))))) lt = f
eight_looks bytes len step a b c d e f g h (suc (suc (suc (suc (suc (suc zero)))))) lt = g
eight_looks bytes len step a b c d e f g h (suc (suc (suc (suc (suc (suc (suc zero))))))) lt = h
eight_looks bytes len step a b c d e f g h (suc (suc (suc (suc (suc (suc (suc (suc k)))))))) lt = absurd (omega arith)
