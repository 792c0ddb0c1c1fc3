-- Tables that are laid out one after another.
use Rattle.std.proofs.Common.{◌≡◌, ℕ, zero, suc, ◌+◌, ◌-◌, ◌*◌, ◌/◌, ◌%◌, ◌^◌, ◌<◌, ◌≤◌, Bool, true, false, cond, ltb, ◌&&◌, List, [], ◌∷◌, ◌++◌, length, get_or, take, drop, refl, sym, ap, subst, ◌∙◌, append_assoc, arith}
use Rattle.std.specs.Prelude.{map, codes, replicate}
use Rattle.std.specs.List.{AllByRecursion}
use Rattle.std.specs.Str.{bytes_eq}
use Rattle.std.specs.Int.{w32, to_be_bytes}
use Rattle.std.proofs.lemmas.Bool.{ltb-true}
use Rattle.std.proofs.lemmas.List.{take_at, drop_at, drop-drop, take-append-le, drop-append-le, append-nil, length-append, length-replicate, length-take, length-drop, take-append-drop}
use Rattle.subsetter_base.specs.Bytes.{aligned}
use Rattle.subsetter_base.proofs.Lists.{and_parts}
use Rattle.subsetter_sfnt.specs.Laying.Checksum.{checksum}
use Rattle.subsetter_sfnt.specs.Laying.Written.{Table, header_bytes, record_bytes, directory_bytes, body, front, with_adjustment, adjusted, adjustment, file, fits, start_of, IsTable}

-- ---- lengths

pub length-record : (at : ℕ) (t : Table) → IsTable t → length (record_bytes at t) ≡ 16
length-record at t h =
    let a = t.tag in
    let b = to_be_bytes w32 (checksum t.bytes) in
    let c = to_be_bytes w32 at in
    let d = to_be_bytes w32 (length t.bytes) in
    omega (arith, length-append (a ++ b ++ c) d, length-append (a ++ b) c, length-append a b, h.tag_len)

pub length-directory : (at : ℕ) (ts : List Table) → AllByRecursion IsTable ts → length (directory_bytes at ts) ≡ 16 * length ts
length-directory at [] h = refl
length-directory at (t ∷ ts) h =
    let next = at + length (aligned 4 t.bytes) in
    omega (arith, length-append (record_bytes at t) (directory_bytes next ts), length-record at t h.0, length-directory next ts h.1)

pub length-header : (kind n : ℕ) → length (header_bytes kind n) ≡ 12
unfolding header_bytes
length-header kind n = refl

pub length-front : (kind : ℕ) (ts : List Table) → AllByRecursion IsTable ts → length (front kind ts) ≡ 12 + 16 * length ts
unfolding front
length-front kind ts h =
    omega (arith, length-append (header_bytes kind (length ts)) (directory_bytes (12 + 16 * length ts) ts), length-header kind (length ts), length-directory (12 + 16 * length ts) ts h)

replaced : (b : Bool) (t : Table) (word : ℕ) → (b ≡ true → 12 ≤ length t.bytes) → length (cond b (record { tag = t.tag; bytes = with_adjustment word t.bytes }) t).bytes ≡ length t.bytes
replaced true t word room =
    let enough = room refl in
    omega (arith, length-append (take 8 t.bytes ++ to_be_bytes w32 word) (drop 12 t.bytes), length-append (take 8 t.bytes) (to_be_bytes w32 word), length-take 8 t.bytes, length-drop 12 t.bytes)
replaced false t word room = refl

pub length-adjusted : (word : ℕ) (t : Table) → IsTable t → length (adjusted word t).bytes ≡ length t.bytes
length-adjusted word t is = replaced (bytes_eq t.tag (codes "head")) t word (λ h. (is.room h).0)

pub aligned_len : (a b : List ℕ) → length a ≡ length b → length (aligned 4 a) ≡ length (aligned 4 b)
aligned_len a b h =
    let n = (4 - length a % 4) % 4 in
    let m = (4 - length b % 4) % 4 in
    omega (arith, length-append a (replicate n 0), length-append b (replicate m 0), length-replicate {A = ℕ} n 0, length-replicate {A = ℕ} m 0)

pub length-body_adjusted : (word : ℕ) (ts : List Table) → AllByRecursion IsTable ts → length (body (map (adjusted word) ts)) ≡ length (body ts)
length-body_adjusted word [] all = refl
length-body_adjusted word (t ∷ ts) all =
    let A = adjusted word t in
    let same = aligned_len A.bytes t.bytes (length-adjusted word t all.0) in
    omega (arith, same, length-append (aligned 4 A.bytes) (body (map (adjusted word) ts)), length-append (aligned 4 t.bytes) (body ts), length-body_adjusted word ts all.1)

-- the exact length of a file
pub length-file : (kind : ℕ) (ts : List Table) → AllByRecursion IsTable ts → length (file kind ts) ≡ start_of ts + length (body ts)
unfolding file
length-file kind ts all =
    let word = adjustment (checksum (front kind ts ++ body ts)) in
    omega (arith, length-append (front kind ts) (body (map (adjusted word) ts)), length-front kind ts all, length-body_adjusted word ts all)

-- ---- places that fit

pub record Fitting (at : ℕ) (t : Table) (ts : List Table) : Type 0 where
  pub offset : at < 2 ^ 32
  pub len : length t.bytes < 2 ^ 32
  pub rest : fits (at + length (aligned 4 t.bytes)) ts ≡ true

pub fitting : (at : ℕ) (t : Table) (ts : List Table) → fits at (t ∷ ts) ≡ true → Fitting at t ts
fitting at t ts h =
    let a = and_parts (ltb at (2 ^ 32)) (ltb (length t.bytes) (2 ^ 32) && fits (at + length (aligned 4 t.bytes)) ts) h in
    let b = and_parts (ltb (length t.bytes) (2 ^ 32)) (fits (at + length (aligned 4 t.bytes)) ts) a.1 in
    record { offset = ltb-true _ _ a.0; len = ltb-true _ _ b.0; rest = b.1 }

-- the code's way to round up
pub rounded : (b : List ℕ) → length (aligned 4 b) ≡ (length b + 3) / 4 * 4
rounded b =
    let n = (4 - length b % 4) % 4 in
    omega (arith, length-append b (replicate n 0), length-replicate {A = ℕ} n 0)

-- what holds of each table holds of one of them
pub at_index : {X Y : Type 0} (P : Y → Type 0) (f : X → Y) (xs : List X) (i : ℕ) (x : X) → AllByRecursion P (map f xs) → i < length xs → x ≡ get_or xs i x → P (f x)
at_index P f [] i x all lt is = absurd (omega arith)
at_index P f (y ∷ ys) zero x all lt is = subst (λ z. P (f z)) (sym is) all.0
at_index P f (y ∷ ys) (suc i) x all lt is = at_index P f ys i x all.1 (omega arith) is

-- ---- writing in turn

-- a write of bytes that are known
pub one_write : (w x a after : List ℕ) → after ≡ w ++ x → x ≡ a → after ≡ w ++ a
one_write w x a after h is = h ∙ ap (λ (l : List ℕ). w ++ l) is

-- zeros after bytes that have others before them, as many as a multiple of four
pub aligned_after : (out bytes : List ℕ) → length out % 4 ≡ 0 → aligned 4 (out ++ bytes) ≡ out ++ aligned 4 bytes
aligned_after out bytes multiple =
    let zeros : (4 - length (out ++ bytes) % 4) % 4 ≡ (4 - length bytes % 4) % 4 = omega (arith, length-append out bytes) in
    ap (λ (n : ℕ). (out ++ bytes) ++ replicate n 0) zeros ∙ append_assoc out bytes (replicate ((4 - length bytes % 4) % 4) 0)

-- bytes in the place of others, which have more after them
pub record Patched (old more piece new : List ℕ) (place size : ℕ) : Type 0 where
  pub front : take (place + size) new ≡ take place old ++ piece
  pub following : drop (place + size) new ≡ drop (place + size) old ++ more
  pub len : length new ≡ length old + length more

pub patched_in : (old more piece whole bytes new : List ℕ) (place size : ℕ) → whole ≡ old ++ more → bytes ≡ piece → length piece ≡ size → place + size ≤ length old
    → new ≡ take place whole ++ bytes ++ drop (place + length bytes) whole → Patched old more piece new place size
patched_in old more piece whole bytes new place size w b n within e =
    let low : place ≤ length old = omega arith in
    let head : take place (old ++ more) ≡ take place old = take-append-le place old more low in
    let tail : drop (place + size) (old ++ more) ≡ drop (place + size) old ++ more = drop-append-le (place + size) old more within in
    let is : new ≡ (take place old ++ piece) ++ (drop (place + size) old ++ more) =
    e ∙ ap (λ (l : List ℕ). take place l ++ bytes ++ drop (place + length bytes) l) w
    ∙ ap (λ (l : List ℕ). take place (old ++ more) ++ l ++ drop (place + length l) (old ++ more)) b
    ∙ ap (λ (k : ℕ). take place (old ++ more) ++ piece ++ drop (place + k) (old ++ more)) n
    ∙ ap (λ (l : List ℕ). l ++ piece ++ drop (place + size) (old ++ more)) head
    ∙ ap (λ (l : List ℕ). take place old ++ piece ++ l) tail in
    let at : length (take place old ++ piece) ≡ place + size = omega (arith, length-append (take place old) piece, length-take place old) in
    record {
      front = ap (take (place + size)) is ∙ take_at (take place old ++ piece) (drop (place + size) old ++ more) (place + size) at;
      following = ap (drop (place + size)) is ∙ drop_at (take place old ++ piece) (drop (place + size) old ++ more) (place + size) at;
      len = omega (arith, ap length is, length-append (take place old ++ piece) (drop (place + size) old ++ more), at, length-append (drop (place + size) old) more, length-drop (place + size) old);
    }

-- what is written at the end, seen from further after
pub after_more : (new old b : List ℕ) (place start : ℕ) → drop place new ≡ drop place old ++ b → place ≤ start → start ≤ length old → drop start new ≡ drop start old ++ b
after_more new old b place start e le within =
    let k = start - place in
    let at : start ≡ place + k = omega arith in
    let inside : k ≤ length (drop place old) = omega (arith, length-drop place old) in
    let cut : drop k (drop place old ++ b) ≡ drop k (drop place old) ++ b = drop-append-le k (drop place old) b inside in
    ap (λ (n : ℕ). drop n new) at ∙ sym (drop-drop k place new) ∙ ap (drop k) e ∙ cut ∙ ap (λ (l : List ℕ). l ++ b) (drop-drop k place old ∙ ap (λ (n : ℕ). drop n old) (sym at))

-- ---- the adjustment

-- a list around a part of it
pub around : (out b : List ℕ) (at : ℕ) → take (length b) (drop at out) ≡ b → out ≡ take at out ++ (b ++ drop (at + length b) out)
around out b at there =
    let beyond : drop (length b) (drop at out) ≡ drop (at + length b) out = drop-drop (length b) at out in
    let tail : b ++ drop (at + length b) out ≡ drop at out = ap (λ (l : List ℕ). b ++ l) (sym beyond) ∙ ap (λ (l : List ℕ). l ++ drop (length b) (drop at out)) (sym there) ∙ take-append-drop (length b) (drop at out) in
    sym (take-append-drop at out) ∙ ap (λ (l : List ℕ). take at out ++ l) (sym tail)

pub untouched : (out b : List ℕ) (at : ℕ) → take (length b) (drop at out) ≡ b → out ≡ take at out ++ b ++ drop (at + length b) out
untouched out b at there = around out b at there ∙ sym (append_assoc (take at out) b (drop (at + length b) out))

-- a word in bytes 8..12 of a table at an offset
pub patched : (out b W : List ℕ) (at : ℕ) → at + length b ≤ length out → 12 ≤ length b → take (length b) (drop at out) ≡ b
    → take (at + 8) out ++ W ++ drop (at + 8 + 4) out ≡ take at out ++ (take 8 b ++ W ++ drop 12 b) ++ drop (at + length b) out
patched out b W at within room there =
    let pre = take at out in
    let rest = drop (at + length b) out in
    let is = around out b at there in
    let cut = λ (n : ℕ). is ∙ ap (λ (l : List ℕ). pre ++ (l ++ rest)) (sym (take-append-drop n b)) ∙ ap (λ (l : List ℕ). pre ++ l) (append_assoc (take n b) (drop n b) rest) ∙ sym (append_assoc pre (take n b) (drop n b ++ rest)) in
    let lp : length pre ≡ at = omega (arith, length-take at out) in
    let front : take (at + 8) out ≡ pre ++ take 8 b = ap (take (at + 8)) (cut 8) ∙ take_at (pre ++ take 8 b) (drop 8 b ++ rest) (at + 8) (omega (arith, lp, length-append pre (take 8 b), length-take 8 b)) in
    let back : drop (at + 8 + 4) out ≡ drop 12 b ++ rest = ap (drop (at + 8 + 4)) (cut 12) ∙ drop_at (pre ++ take 12 b) (drop 12 b ++ rest) (at + 8 + 4) (omega (arith, lp, length-append pre (take 12 b), length-take 12 b)) in
    ap (λ (l : List ℕ). l ++ W ++ drop (at + 8 + 4) out) front ∙ ap (λ (l : List ℕ). pre ++ take 8 b ++ W ++ l) back ∙ regroup pre (take 8 b) W (drop 12 b) rest
  where
    regroup : (p a w d r : List ℕ) → p ++ a ++ w ++ (d ++ r) ≡ p ++ (a ++ w ++ d) ++ r
    regroup p a w d r = simp append_assoc

-- the next table is at the front of what is left
pub record Stands (out b rest : List ℕ) (at : ℕ) : Type 0 where
  pub within : at + length b ≤ length out
  pub there : take (length b) (drop at out) ≡ b
  pub beyond : drop (at + length b) out ≡ replicate ((4 - length b % 4) % 4) 0 ++ rest

pub stands : (out b rest : List ℕ) (at : ℕ) → at ≤ length out → drop at out ≡ aligned 4 b ++ rest → Stands out b rest at
stands out b rest at le is =
    let zeros : List ℕ = replicate ((4 - length b % 4) % 4) 0 in
    let split : drop at out ≡ b ++ (zeros ++ rest) = is ∙ append_assoc b zeros rest in
    record {
      within = omega (arith, length-drop at out, ap length split, length-append b (zeros ++ rest));
      there = ap (take (length b)) split ∙ take_at b (zeros ++ rest) (length b) refl;
      beyond = sym (drop-drop (length b) at out) ∙ ap (drop (length b)) split ∙ drop_at b (zeros ++ rest) (length b) refl;
    }

-- past a table that was changed in its place
pub record Past (after rest more total : List ℕ) (next : ℕ) : Type 0 where
  pub done : take next after ++ more ≡ total
  pub rest_is : drop next after ≡ rest
  pub within : next ≤ length after

pub past : (out after b c rest more total : List ℕ) (at next : ℕ) → at ≤ length out → drop at out ≡ aligned 4 b ++ rest → after ≡ take at out ++ c ++ drop (at + length b) out → length c ≡ length b → next ≡ at + length (aligned 4 b)
    → take at out ++ (aligned 4 c ++ more) ≡ total → Past after rest more total next
past out after b c rest more total at next le is changed same n so_far =
    let s = stands out b rest at le is in
    let pre = take at out in
    let zeros : ℕ → List ℕ = λ k. replicate ((4 - k % 4) % 4) 0 in
    let lp : length pre ≡ at = omega (arith, length-take at out) in
    let split : after ≡ (pre ++ aligned 4 c) ++ rest = changed ∙ ap (λ (l : List ℕ). pre ++ c ++ l) (s.beyond ∙ ap (λ (k : ℕ). zeros k ++ rest) (sym same)) ∙ regroup pre c (zeros (length c)) rest in
    let size : length (pre ++ aligned 4 c) ≡ next = omega (arith, lp, length-append pre (aligned 4 c), aligned_len c b same) in
    record {
      done = ap (λ (l : List ℕ). l ++ more) (ap (take next) split ∙ take_at (pre ++ aligned 4 c) rest next size) ∙ append_assoc pre (aligned 4 c) more ∙ so_far;
      rest_is = ap (drop next) split ∙ drop_at (pre ++ aligned 4 c) rest next size;
      within = omega (arith, ap length split, length-append (pre ++ aligned 4 c) rest);
    }
  where
    regroup : (p a z r : List ℕ) → p ++ a ++ (z ++ r) ≡ (p ++ (a ++ z)) ++ r
    regroup p a z r = simp append_assoc

pub adjusted_head : (word : ℕ) (t : Table) → bytes_eq t.tag (codes "head") ≡ true → (adjusted word t).bytes ≡ with_adjustment word t.bytes
adjusted_head word t h = ap (λ b. (cond b (record { tag = t.tag; bytes = with_adjustment word t.bytes }) t).bytes) h

pub adjusted_other : (word : ℕ) (t : Table) → bytes_eq t.tag (codes "head") ≡ false → (adjusted word t).bytes ≡ t.bytes
adjusted_other word t h = ap (λ b. (cond b (record { tag = t.tag; bytes = with_adjustment word t.bytes }) t).bytes) h

-- ---- the whole file

pub front_is : (kind : ℕ) (ts : List Table) (n : ℕ) (header front_bytes : List ℕ) → n ≡ length ts → header ≡ header_bytes kind n → front_bytes ≡ header ++ directory_bytes (12 + 16 * n) ts → front_bytes ≡ front kind ts
unfolding front
front_is kind ts n header front_bytes count h d =
    d ∙ ap (λ (l : List ℕ). l ++ directory_bytes (12 + 16 * n) ts) h ∙ ap (λ k. header_bytes kind k ++ directory_bytes (12 + 16 * k) ts) count

-- the header in the place of the first zeros
pub headed : (zeros header new : List ℕ) (kind n : ℕ) → header ≡ header_bytes kind n → 12 ≤ length zeros → new ≡ take 0 zeros ++ header ++ drop (0 + length header) zeros → Patched zeros [] (header_bytes kind n) new 0 12
headed zeros header new kind n h long e = patched_in zeros [] (header_bytes kind n) zeros header new 0 12 (sym (append-nil zeros)) h (length-header kind n) long e

-- what construct leaves is the file
pub made : (kind : ℕ) (ts : List Table) (start sum word : ℕ) (before out : List ℕ) → AllByRecursion IsTable ts → start ≡ 12 + 16 * length ts → before ≡ front kind ts ++ body ts → sum ≡ checksum before → word ≡ adjustment sum
    → out ≡ take start before ++ body (map (adjusted word) ts) → out ≡ file kind ts
unfolding file
made kind ts start sum word before out all at is s w so =
    let front_back : take start before ≡ front kind ts = ap (take start) is ∙ take_at (front kind ts) (body ts) start (omega (arith, length-front kind ts all)) in
    let word_is : word ≡ adjustment (checksum (front kind ts ++ body ts)) = w ∙ ap adjustment (s ∙ ap checksum is) in
    so ∙ ap (λ (l : List ℕ). l ++ body (map (adjusted word) ts)) front_back ∙ ap (λ (k : ℕ). front kind ts ++ body (map (adjusted k) ts)) word_is
