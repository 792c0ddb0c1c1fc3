-- The checksum by the weights of the bytes.
use Rattle.std.proofs.Common.{◌≡◌, ℕ, zero, suc, ◌+◌, ◌-◌, ◌*◌, ◌%◌, ◌^◌, ◌<◌, ◌≤◌, List, [], ◌∷◌, ◌++◌, length, get_or, take, drop, refl, sym, ap, ◌∙◌, ◌⊎◌, inl, inr, arith}
use Rattle.std.specs.Prelude.{sum, replicate}
use Rattle.std.proofs.lemmas.List.{drop_more, length-take, length-take-le, length-append, drop_all, drop-take, take-append-le, take-append-drop, take-take}
use Rattle.std.proofs.lemmas.List.Sums.{sum_by-cons}
use Rattle.subsetter_base.specs.Bytes.{be, aligned}
use Rattle.subsetter_base.proofs.Lists.{rest_of}
use Rattle.subsetter_sfnt.specs.Laying.Checksum.{words, checksum}
use Rattle.subsetter_sfnt.specs.Laying.Weights.{weighed, IsSummed}
use Rattle.subsetter_sfnt.proofs.Laws.LayingLaws.Checksum.{aligned-append}

-- only the place in a word of four bytes counts
pub weighed-mod : (p q : ℕ) (bs : List ℕ) → p % 4 ≡ q % 4 → weighed p bs ≡ weighed q bs
weighed-mod p q [] h = refl
weighed-mod p q (b ∷ bs) h =
    let here = ap (λ (k : ℕ). b * 256 ^ (3 - k) + weighed (p + 1) bs) h in
    here ∙ ap (λ (k : ℕ). b * 256 ^ (3 - q % 4) + k) (weighed-mod (p + 1) (q + 1) bs (omega arith))

pub weighed-append : (at : ℕ) (a b : List ℕ) → weighed at (a ++ b) ≡ weighed at a + weighed (at + length a) b
weighed-append at [] b =
    let same : at + 0 ≡ at = omega arith in
    omega (arith, ap (λ (k : ℕ). weighed k b) same)
weighed-append at (x ∷ a) b =
    let next : weighed (at + 1 + length a) b ≡ weighed (at + length (x ∷ a)) b = ap (λ (k : ℕ). weighed k b) (omega arith) in
    omega (arith, weighed-append (at + 1) a b, next)

pub weighed-zeros : (at n : ℕ) → weighed at (replicate n 0) ≡ 0
weighed-zeros at zero = refl
weighed-zeros at (suc n) = omega (arith, weighed-zeros (at + 1) n)

-- one byte of a list, and those after it
pub weighed-more : (at i b : ℕ) (bs : List ℕ) → i < length bs → b ≡ get_or bs i 0 → weighed (at + i) (drop i bs) ≡ b * 256 ^ (3 - (at + i) % 4) + weighed (at + (i + 1)) (drop (i + 1) bs)
weighed-more at i b bs lt is =
    let more : drop i bs ≡ b ∷ drop (i + 1) bs = drop_more bs i 0 lt ∙ ap (λ (x : ℕ). x ∷ drop (i + 1) bs) (sym is) in
    ap (weighed (at + i)) more ∙ ap (λ (k : ℕ). b * 256 ^ (3 - (at + i) % 4) + weighed k (drop (i + 1) bs)) (omega arith)

pub weighed_word : (a b c d : ℕ) (bs : List ℕ) → weighed 0 (a ∷ b ∷ c ∷ d ∷ bs) ≡ be (a ∷ b ∷ c ∷ d ∷ []) + weighed 0 bs
weighed_word a b c d bs = omega (arith, weighed-mod 4 0 bs refl)

-- the words' sum
pub weighed_words : (bs : List ℕ) → sum (words (aligned 4 bs)) ≡ weighed 0 bs
weighed_words [] = refl
weighed_words (a ∷ []) = omega arith
weighed_words (a ∷ b ∷ []) = omega arith
weighed_words (a ∷ b ∷ c ∷ []) = omega arith
weighed_words (a ∷ b ∷ c ∷ d ∷ bs) =
    let split : words (aligned 4 (a ∷ b ∷ c ∷ d ∷ bs)) ≡ be (a ∷ b ∷ c ∷ d ∷ []) ∷ words (aligned 4 bs) = ap words (aligned-append (a ∷ b ∷ c ∷ d ∷ []) bs refl) in
    omega (arith, ap sum split, sum_by-cons (λ (x : ℕ). x) (be (a ∷ b ∷ c ∷ d ∷ [])) (words (aligned 4 bs)), weighed_words bs, weighed_word a b c d bs)

pub checksum-weighed : (bs : List ℕ) → checksum bs ≡ weighed 0 bs % 2 ^ 32
unfolding checksum
checksum-weighed bs = ap (λ (k : ℕ). k % 2 ^ 32) (weighed_words bs)

pub weighed_four : (bs : List ℕ) → 4 ≤ length bs → weighed 0 bs ≡ get_or bs 0 0 * 16777216 + get_or bs 1 0 * 65536 + get_or bs 2 0 * 256 + get_or bs 3 0 + weighed 0 (take (length bs - 4) (drop 4 bs))
weighed_four [] le = absurd (omega arith)
weighed_four (a ∷ []) le = absurd (omega arith)
weighed_four (a ∷ b ∷ []) le = absurd (omega arith)
weighed_four (a ∷ b ∷ c ∷ []) le = absurd (omega arith)
weighed_four (a ∷ b ∷ c ∷ d ∷ bs) le = omega (arith, weighed-mod 4 0 bs refl, ap (weighed 0) (rest_of 4 (a ∷ b ∷ c ∷ d ∷ bs)))

-- the bytes up to a multiple of four, and the words from there on
pub weighed_split : (at n : ℕ) (bs : List ℕ) → n ≤ length bs → ((at + n) % 4 ≡ 0) ⊎ (n ≡ length bs) → weighed at bs ≡ weighed at (take n bs) + weighed 0 (take (length bs - n) (drop n bs))
weighed_split at n bs le whole =
    let len : length (take n bs) ≡ n = omega (arith, length-take n bs) in
    let parts = ap (weighed at) (sym (take-append-drop n bs)) ∙ weighed-append at (take n bs) (drop n bs) ∙ ap (λ (k : ℕ). weighed at (take n bs) + weighed (at + k) (drop n bs)) len in
    parts ∙ ap (λ (k : ℕ). weighed at (take n bs) + k) (elim whole [ inl h ↦ weighed-mod (at + n) 0 (drop n bs) h | inr h ↦ ap (weighed (at + n)) (none h) ∙ sym (ap (weighed 0) (none h)) ])
    ∙ ap (λ (l : List ℕ). weighed at (take n bs) + weighed 0 l) (sym (rest_of n bs))
  where
    none : n ≡ length bs → drop n bs ≡ []
    none h = drop_all n bs (omega arith)

pub none_added : (sum phase total : ℕ) (all : List ℕ) → all ≡ [] → sum < 2 ^ 32 → (sum + weighed phase all) % 2 ^ 32 ≡ total → sum ≡ total
none_added sum phase total all is lt h = omega (arith, ap (weighed phase) is)

-- a piece more in the sum of the first bytes
pub summed_more : (bytes : List ℕ) (value done next size n : ℕ) → IsSummed bytes value done → done + size ≤ length bytes → size % 4 ≡ 0 → n ≡ size → next ≡ (value + weighed 0 (take n (drop done bytes))) % 2 ^ 32 → IsSummed bytes next (done + size)
summed_more bytes value done next size n h le four same is =
    let W = take (done + size) bytes in
    let len : length W ≡ done + size = length-take-le (done + size) bytes le in
    let there : done ≤ length W = omega (arith, len) in
    let w = h.whole in
    let place : (0 + done) % 4 ≡ 0 = omega arith in
    let split = weighed_split 0 done W there (inl place) in
    let front : take done W ≡ take done bytes = front_of done size bytes in
    let back : take (length W - done) (drop done W) ≡ take n (drop done bytes) = rest_of done W ∙ drop-take done size bytes ∙ ap (λ k. take k (drop done bytes)) (sym same) in
    let v = h.value_is in
    record {
      within = le;
      whole = omega arith;
      value_is = omega (arith, split, ap (weighed 0) front, ap (weighed 0) back);
    }
  where
    front_of : (a b : ℕ) (l : List ℕ) → take a (take (a + b) l) ≡ take a l
    front_of a b l = take-take a (a + b) l (omega arith)

-- bytes more after those that were summed
pub summed_after : (bytes more : List ℕ) (value done : ℕ) → IsSummed bytes value done → IsSummed (bytes ++ more) value done
summed_after bytes more value done h =
    let w = h.within in
    record {
      within = omega (arith, length-append bytes more);
      whole = h.whole;
      value_is = h.value_is ∙ ap (λ (l : List ℕ). weighed 0 l % 2 ^ 32) (sym (take-append-le done bytes more h.within));
    }

-- the sum of the first bytes and of those after them
pub summed_all : (bytes : List ℕ) (value done sum : ℕ) → IsSummed bytes value done → sum ≡ (value + weighed 0 (take (length bytes - done) (drop done bytes))) % 2 ^ 32 → sum ≡ checksum bytes
summed_all bytes value done sum h is =
    let w = h.whole in
    let place : (0 + done) % 4 ≡ 0 = omega arith in
    let split = weighed_split 0 done bytes h.within (inl place) in
    let v = h.value_is in
    omega (arith, split, checksum-weighed bytes)
