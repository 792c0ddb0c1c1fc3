-- The checksum of bytes that are put together.
use Rattle.std.proofs.Common.{◌≡◌, ℕ, ◌+◌, ◌-◌, ◌%◌, ◌^◌, ◌<◌, List, [], ◌∷◌, ◌++◌, length, refl, ap, ◌∙◌, append_assoc, arith}
use Rattle.std.specs.Prelude.{sum, replicate}
use Rattle.std.proofs.lemmas.List.{append-nil, length-append, length-replicate}
use Rattle.std.proofs.lemmas.List.Sums.{sum_by-append}
use Rattle.subsetter_base.specs.Bytes.{be, aligned}
use Rattle.subsetter_sfnt.specs.Laying.Checksum.{words, checksum}
use Rattle.subsetter_sfnt.specs.Laying.Written.{Table, body}

sum-append : (a b : List ℕ) → sum (a ++ b) ≡ sum a + sum b
sum-append a b = sum_by-append (λ (x : ℕ). x) a b

pub words-append : (a b : List ℕ) → length a % 4 ≡ 0 → words (a ++ b) ≡ words a ++ words b
words-append [] b h = refl
words-append (p ∷ []) b h = absurd (omega arith)
words-append (p ∷ q ∷ []) b h = absurd (omega arith)
words-append (p ∷ q ∷ r ∷ []) b h = absurd (omega arith)
words-append (p ∷ q ∷ r ∷ s ∷ a) b h = ap (λ (w : List ℕ). be (p ∷ q ∷ r ∷ s ∷ []) ∷ w) (words-append a b (omega arith))

pub length-aligned : (a : List ℕ) → length (aligned 4 a) % 4 ≡ 0
length-aligned a =
    let n = (4 - length a % 4) % 4 in
    omega (arith, length-append a (replicate n 0), length-replicate {A = ℕ} n 0)

pub aligned-append : (a b : List ℕ) → length a % 4 ≡ 0 → aligned 4 (a ++ b) ≡ a ++ aligned 4 b
aligned-append a b h =
    let n : (4 - length (a ++ b) % 4) % 4 ≡ (4 - length b % 4) % 4 = omega (arith, length-append a b) in
    ap (λ (k : ℕ). (a ++ b) ++ replicate k 0) n ∙ append_assoc a b (replicate ((4 - length b % 4) % 4) 0)

pub aligned_already : (a : List ℕ) → length a % 4 ≡ 0 → aligned 4 a ≡ a
aligned_already a h =
    let n : (4 - length a % 4) % 4 ≡ 0 = omega arith in
    ap (λ (k : ℕ). a ++ replicate k 0) n ∙ append-nil a

pub checksum-append : (a b : List ℕ) → length a % 4 ≡ 0 → checksum (a ++ b) ≡ (checksum a + checksum b) % 2 ^ 32
unfolding checksum
checksum-append a b h =
    let w : words (aligned 4 (a ++ b)) ≡ words a ++ words (aligned 4 b) = ap words (aligned-append a b h) ∙ words-append a (aligned 4 b) h in
    let s : sum (words (aligned 4 (a ++ b))) ≡ sum (words a) + sum (words (aligned 4 b)) = ap sum w ∙ sum-append (words a) (words (aligned 4 b)) in
    let t : sum (words (aligned 4 a)) ≡ sum (words a) = ap (λ (l : List ℕ). sum (words l)) (aligned_already a h) in
    omega arith

pub checksum-aligned : (a : List ℕ) → checksum (aligned 4 a) ≡ checksum a
unfolding checksum
checksum-aligned a = ap (λ (l : List ℕ). sum (words l) % 2 ^ 32) (aligned_already (aligned 4 a) (length-aligned a))

pub checksum_fits : (a : List ℕ) → checksum a < 2 ^ 32
unfolding checksum
checksum_fits a = omega arith

pub checksum-body : (t : Table) (ts : List Table) → checksum (body (t ∷ ts)) ≡ (checksum t.bytes + checksum (body ts)) % 2 ^ 32
checksum-body t ts = checksum-append (aligned 4 t.bytes) (body ts) (length-aligned t.bytes) ∙ ap (λ (n : ℕ). (n + checksum (body ts)) % 2 ^ 32) (checksum-aligned t.bytes)

checksum-none : checksum (body []) ≡ 0
unfolding checksum
checksum-none = refl

-- a sum of tables that are all taken
pub none_left : (sum total : ℕ) (ts : List Table) → ts ≡ [] → sum < 2 ^ 32 → (sum + checksum (body ts)) % 2 ^ 32 ≡ total → sum ≡ total
none_left sum total ts is lt h = omega (arith, ap (λ l. checksum (body l)) is, checksum-none)
