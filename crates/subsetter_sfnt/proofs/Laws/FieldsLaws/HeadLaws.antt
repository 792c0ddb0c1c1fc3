-- `head` with fields that are written anew.
--   in_three                         a range in three
--   own_head                         with the box that it has
--   length-head                      how long it is
--   seven_written                    bytes that were written in turn
use Rattle.std.proofs.Common.{◌≡◌, ◌≤◌, ℕ, ◌+◌, Bool, List, [], ◌∷◌, ◌++◌, length, take, drop, sym, ap, ◌∙◌, append_assoc, arith}
use Rattle.std.specs.Prelude.{slice_range}
use Rattle.std.proofs.lemmas.List.{length-append, length-take, length-drop, take-append-drop, take-take, drop-take, drop-drop}
use Rattle.subsetter_sfnt.specs.Fields.Head.{format_bytes, head_with}

in_two : (xs : List ℕ) (at m n : ℕ) → take (m + n) (drop at xs) ≡ take m (drop at xs) ++ take n (drop (at + m) xs)
in_two xs at m n =
    let whole = take (m + n) (drop at xs) in
    let front : take m whole ≡ take m (drop at xs) = take-take m (m + n) (drop at xs) (omega arith) in
    let back : drop m whole ≡ take n (drop (at + m) xs) = drop-take m n (drop at xs) ∙ ap (take n) (drop-drop m at xs) in
    sym (take-append-drop m whole) ∙ ap (λ (l : List ℕ). l ++ drop m whole) front ∙ ap (λ (l : List ℕ). take m (drop at xs) ++ l) back

pub in_three : (xs : List ℕ) (at k m n : ℕ) → take (k + m + n) (drop at xs) ≡ take k (drop at xs) ++ take m (drop (at + k) xs) ++ take n (drop (at + (k + m)) xs)
in_three xs at k m n = in_two xs at (k + m) n ∙ ap (λ (l : List ℕ). l ++ take n (drop (at + (k + m)) xs)) (in_two xs at k m)

-- the bytes of the box stay among those around them
pub own_head : (long : Bool) (head : List ℕ) → head_with long (slice_range head 36 44) head ≡ take 8 head ++ (0 ∷ 0 ∷ 0 ∷ 0 ∷ []) ++ slice_range head 12 50 ++ format_bytes long ++ drop 52 head
own_head long head = sym (ap (λ (l : List ℕ). take 8 head ++ (0 ∷ 0 ∷ 0 ∷ 0 ∷ []) ++ l ++ format_bytes long ++ drop 52 head) (in_three head 12 24 8 6))

pub length-head : (long : Bool) (box head : List ℕ) → 52 ≤ length head → length box ≡ 8 → length (head_with long box head) ≡ length head
length-head long box head h eight =
    let a = take 8 head in
    let z : List ℕ = 0 ∷ 0 ∷ 0 ∷ 0 ∷ [] in
    let b = slice_range head 12 36 in
    let c = slice_range head 44 50 in
    let f = format_bytes long in
    let middle : length (b ++ box ++ c) ≡ 38 = omega (arith, length-append (b ++ box) c, length-append b box, eight, length-take 24 (drop 12 head), length-drop 12 head, length-take 6 (drop 44 head), length-drop 44 head) in
    omega (arith, length-append (a ++ z ++ (b ++ box ++ c) ++ f) (drop 52 head), length-append (a ++ z ++ (b ++ box ++ c)) f, length-append (a ++ z) (b ++ box ++ c), length-append a z, middle, length-take 8 head, length-drop 52 head)

pub seven_written : (w a b c d e f g w1 w2 w3 w4 w5 w6 w7 : List ℕ) → w1 ≡ w ++ a → w2 ≡ w1 ++ b → w3 ≡ w2 ++ c → w4 ≡ w3 ++ d → w5 ≡ w4 ++ e → w6 ≡ w5 ++ f → w7 ≡ w6 ++ g → w7 ≡ w ++ (a ++ b ++ (c ++ d ++ e) ++ f ++ g)
seven_written w a b c d e f g w1 w2 w3 w4 w5 w6 w7 h1 h2 h3 h4 h5 h6 h7 = rw (h7, h6, h5, h4, h3, h2, h1) (simp append_assoc)
