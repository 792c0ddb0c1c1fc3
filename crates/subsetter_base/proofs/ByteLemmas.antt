-- What reading and writing bytes has in common: numbers written and read again, and parts of joined lists.
--   be-u8, be-u16, be-u32        a number that was written is read
--   be-append, be-fits           the number of joined bytes; a number of n bytes is below 256 ^ n
--   range-left, range-right, range-middle, range-whole, range-none, range-length
--                                parts of `a ++ b`, a part between two others, no part past the end
--   number_at                    a number between two other parts
--   range-fits, range-take_drop  where there is a part, and what it is
--   stays_inside                 a reading moves to no offset past the end
--   range-drop                   a part of what is left after an offset
--   range-short, number-fits, number-short
--                                how many bytes there are where a part or a number is there, or isn't
--   IsBytes-take, IsBytes-drop, IsBytes-range, number-small
--                                parts of bytes are bytes, and two of them spell a number below 2 ^ 16
--   flat_map-bytes               an array of bytes, as it is written
use Rattle.std.proofs.Common.{◌≡◌, ℕ, suc, ◌+◌, ◌*◌, ◌^◌, ◌<◌, ◌≤◌, Bool, true, false, cond, leb, get_or, List, [], ◌∷◌, ◌++◌, length, take, drop, Option, Some, None, refl, sym, ap, subst, ◌∙◌, inl, inr, lit<, add_assoc, arith}
use Rattle.std.specs.Prelude.{flat_map}
use Rattle.std.specs.Prelude.{is_some, if◌then◌else◌}
use Rattle.std.specs.Option.{option_map, option_and_then}
use Rattle.std.specs.Int.{w16, w32, to_be_bytes}
use Rattle.std.proofs.lemmas.Bool.{le-leb, lt-leb, leb-true, leb-false, cases_lt}
use Rattle.std.proofs.lemmas.Nat.{from_be_bytes-to_be_bytes_2, from_be_bytes-to_be_bytes_4, pow-add}
use Rattle.std.proofs.lemmas.List.{append-nil, take_at, drop_at, length-append, length-take-le, length-drop, drop-append-le, take-append-le, take-append-drop, get_or-take, get_or-drop, get_or_past, length-take}
use Rattle.std.proofs.Math.Seq.{drop-append-add}
use Rattle.std.proofs.Math.Nat.{mul_assoc, add-mul, mul-le-mul_right}
use Rattle.subsetter_base.specs.Bytes.{be, range, number, IsBytes}
use Rattle.subsetter_base.specs.Read.{Source, IsInside}
use Rattle.subsetter_base.proofs.Options.{map_some, map_none}

-- ---- numbers

leb-shift : (n a b : ℕ) {m : ℕ} → m ≡ n + a → leb m (n + b) ≡ leb a b
leb-shift n a b {m} e = elim (cases_lt b a) [
  | inl gt ↦ lt-leb m (n + b) (omega arith) ∙ sym (lt-leb a b gt)
  | inr le ↦ le-leb m (n + b) (omega arith) ∙ sym (le-leb a b le)
]

joined : (x p q a b : ℕ) → x * (p * q) + (a * q + b) ≡ (x * p + a) * q + b
joined x p q a b = omega (arith, mul_assoc x p q, add-mul (x * p) a q)

pub be-u8 : (n : ℕ) → be (n ∷ []) ≡ n
be-u8 n = omega arith

pub be-u16 : (n : ℕ) → n < 2 ^ 16 → be (to_be_bytes w16 n) ≡ n
be-u16 n lt = omega (arith, from_be_bytes-to_be_bytes_2 n lt)

pub be-u32 : (n : ℕ) → n < 2 ^ 32 → be (to_be_bytes w32 n) ≡ n
be-u32 n lt = omega (arith, from_be_bytes-to_be_bytes_4 n lt)

-- ---- parts

abbrev part : Bool → List ℕ → Option (List ℕ)
part b bytes = cond b (Some bytes) None

-- where there are as many bytes, they are the part
pub range-take_drop : (bytes : List ℕ) (at size : ℕ) → at + size ≤ length bytes → range bytes at size ≡ Some (take size (drop at bytes))
range-take_drop bytes at size h = ap (λ b. part b (take size (drop at bytes))) (le-leb _ _ h)

found : (b : Bool) (x y : List ℕ) → part b x ≡ Some y → (b ≡ true) × (y ≡ x)
found true x y e = (refl, cc)
found false x y e = absurd cc

-- where a part is found, there are as many bytes
pub range-fits : (bytes part : List ℕ) (at size : ℕ) → range bytes at size ≡ Some part → at + size ≤ length bytes
range-fits bytes p at size e = leb-true _ _ (found (leb (at + size) (length bytes)) (take size (drop at bytes)) p e).0

-- a reading of a value leaves an offset that was inside the data inside it
pub stays_inside : {X : Type 0} (old new : Source) (size : ℕ) (value_of : List ℕ → Option X) (result : Option X) → result ≡ option_and_then value_of (range old.bytes old.offset size)
    → new ≡ (if is_some result then record old { offset = old.offset + size } else old) → IsInside old → IsInside new
stays_inside old new size value_of None e moves inside = rw moves inside
stays_inside {X} old new size value_of (Some x) e moves inside = rw moves (by (range old.bytes old.offset size) refl e)
  where
    by : (o : Option (List ℕ)) → range old.bytes old.offset size ≡ o → Some x ≡ option_and_then value_of o → old.offset + size ≤ length old.bytes
    by None k h = absurd cc
    by (Some p) k h = range-fits old.bytes p old.offset size k

pub range-length : (bytes part : List ℕ) (at size : ℕ) → range bytes at size ≡ Some part → length part ≡ size
range-length bytes p at size e =
    let is = (found (leb (at + size) (length bytes)) (take size (drop at bytes)) p e).1 in
    let fits = range-fits bytes p at size e in
    ap length is ∙ length-take-le size (drop at bytes) (omega (arith, length-drop at bytes))

unfit : (b : Bool) (x : List ℕ) → (b ≡ true → ⊥) → part b x ≡ None
unfit true x h = absurd (h refl)
unfit false x h = refl

pub range-none : (bytes : List ℕ) (at size : ℕ) → length bytes < at + size → range bytes at size ≡ None
range-none bytes at size h = unfit (leb (at + size) (length bytes)) (take size (drop at bytes)) (λ e. let le = leb-true (at + size) (length bytes) e in omega arith)

-- a part between two others
pub range-middle : (bytes pre mid post : List ℕ) (at size : ℕ) → bytes ≡ pre ++ (mid ++ post) → at ≡ length pre → size ≡ length mid → range bytes at size ≡ Some mid
range-middle bytes pre mid post at size is a s =
    let enough : at + size ≤ length bytes = omega (arith, ap length is, length-append pre (mid ++ post), length-append mid post) in
    let there : take size (drop at bytes) ≡ mid = ap (λ (l : List ℕ). take size (drop at l)) is ∙ ap (take size) (drop_at pre (mid ++ post) at (sym a)) ∙ take_at mid post size (sym s) in
    range-take_drop bytes at size enough ∙ ap Some there

pub number_at : (bytes pre mid post : List ℕ) (at size n : ℕ) → bytes ≡ pre ++ (mid ++ post) → at ≡ length pre → size ≡ length mid → be mid ≡ n → number bytes at size ≡ Some n
number_at bytes pre mid post at size n is a s v = ap (option_map be) (range-middle bytes pre mid post at size is a s) ∙ ap Some v

pub range-whole : (bytes : List ℕ) (size : ℕ) → size ≡ length bytes → range bytes 0 size ≡ Some bytes
range-whole bytes size s = range-middle bytes [] bytes [] 0 size (sym (append-nil bytes)) refl s

-- ---- arrays of bytes

pub flat_map-bytes : (bytes : List ℕ) → flat_map (λ b. b ∷ []) bytes ≡ bytes
flat_map-bytes [] = refl
flat_map-bytes (b ∷ bytes) = ap (λ l. b ∷ l) (flat_map-bytes bytes)

-- ---- joined lists

-- a part that ends before the join, or begins after it
pub range-left : (a b part : List ℕ) (at size : ℕ) → range a at size ≡ Some part → range (a ++ b) at size ≡ Some part
range-left a b p at size e =
    let fits = range-fits a p at size e in
    let is = (found (leb (at + size) (length a)) (take size (drop at a)) p e).1 in
    let here : drop at (a ++ b) ≡ drop at a ++ b = drop-append-le at a b (omega arith) in
    let there : take size (drop at a ++ b) ≡ take size (drop at a) = take-append-le size (drop at a) b (omega (arith, length-drop at a)) in
    range-take_drop (a ++ b) at size (omega (arith, length-append a b)) ∙ ap Some (ap (take size) here ∙ there ∙ sym is)

pub range-right : (a b : List ℕ) (at size : ℕ) → range (a ++ b) (length a + at) size ≡ range b at size
range-right a b at size =
    let same : drop (length a + at) (a ++ b) ≡ drop at b = drop-append-add a b at in
    let test : leb (length a + at + size) (length (a ++ b)) ≡ leb (at + size) (length b) = ap (leb (length a + at + size)) (length-append a b) ∙ leb-shift (length a) (at + size) (length b) (add_assoc (length a) at size) in
    ap (λ (l : List ℕ). part (leb (length a + at + size) (length (a ++ b))) (take size l)) same ∙ ap (λ t. part t (take size (drop at b))) test

-- ---- joined numbers

pub be-append : (a b : List ℕ) → be (a ++ b) ≡ be a * 256 ^ length b + be b
be-append [] b = omega arith
be-append (x ∷ a) b =
    let len : 256 ^ length (a ++ b) ≡ 256 ^ length a * 256 ^ length b = ap (λ (k : ℕ). 256 ^ k) (length-append a b) ∙ pow-add 256 (length a) (length b) in
    let rest = be-append a b in
    ap (λ (k : ℕ). x * k + be (a ++ b)) len ∙ ap (λ (k : ℕ). x * (256 ^ length a * 256 ^ length b) + k) rest ∙ joined x (256 ^ length a) (256 ^ length b) (be a) (be b)

pub be-fits : (bytes : List ℕ) → IsBytes bytes → be bytes < 256 ^ length bytes
be-fits [] all = lit< tt
be-fits (b ∷ bytes) all =
    let first : b < 256 = all 0 in
    let rest = be-fits bytes (λ i. all (suc i)) in
    let power : 256 ^ length (b ∷ bytes) ≡ 256 * 256 ^ length bytes = grind arith in
    let whole : (b + 1) * 256 ^ length bytes ≤ 256 * 256 ^ length bytes = mul-le-mul_right (256 ^ length bytes) (omega arith) in
    omega (arith, power, whole, rest, add-mul b 1 (256 ^ length bytes))

-- a part of what is left after an offset
pub range-drop : (bytes : List ℕ) (k at size : ℕ) → k ≤ length bytes → range (drop k bytes) at size ≡ range bytes (k + at) size
range-drop bytes k at size h =
    let len : length (take k bytes) ≡ k = length-take-le k bytes h in
    let whole : take k bytes ++ drop k bytes ≡ bytes = take-append-drop k bytes in
    sym (range-right (take k bytes) (drop k bytes) at size) ∙ ap (λ (l : List ℕ). range l (length (take k bytes) + at) size) whole ∙ ap (λ (n : ℕ). range bytes (n + at) size) len

-- ---- what isn't there

unfound : (b : Bool) (x : List ℕ) → part b x ≡ None → b ≡ false
unfound true x h = absurd cc
unfound false x h = refl

pub range-short : (bytes : List ℕ) (at size : ℕ) → range bytes at size ≡ None → length bytes < at + size
range-short bytes at size h = leb-false (at + size) (length bytes) (unfound (leb (at + size) (length bytes)) (take size (drop at bytes)) h)

pub number-short : (bytes : List ℕ) (at size : ℕ) → number bytes at size ≡ None → length bytes < at + size
number-short bytes at size h = range-short bytes at size (map_none be (range bytes at size) h)

pub number-fits : (bytes : List ℕ) (at size n : ℕ) → number bytes at size ≡ Some n → at + size ≤ length bytes
number-fits bytes at size n h = let part = map_some be (range bytes at size) n h in range-fits bytes part.0 at size part.1

-- ---- parts of bytes

pub IsBytes-drop : (n : ℕ) (bytes : List ℕ) → IsBytes bytes → IsBytes (drop n bytes)
IsBytes-drop n bytes h i = omega (arith, get_or-drop n bytes i 0, h (n + i))

pub IsBytes-take : (n : ℕ) (bytes : List ℕ) → IsBytes bytes → IsBytes (take n bytes)
IsBytes-take n bytes h i = elim (cases_lt i n) [
  | inl lt ↦ omega (arith, get_or-take n bytes i 0 lt, h i)
  | inr le ↦ omega (arith, get_or_past (take n bytes) i 0 (omega (arith, length-take n bytes)))
]

pub IsBytes-range : (bytes part : List ℕ) (at size : ℕ) → IsBytes bytes → range bytes at size ≡ Some part → IsBytes part
IsBytes-range bytes p at size h e =
    let is = (found (leb (at + size) (length bytes)) (take size (drop at bytes)) p e).1 in
    subst IsBytes (sym is) (IsBytes-take size (drop at bytes) (IsBytes-drop at bytes h))

-- a number of two bytes
pub number-small : (bytes : List ℕ) (at n : ℕ) → IsBytes bytes → number bytes at 2 ≡ Some n → n < 2 ^ 16
number-small bytes at n h e =
    let part = map_some be (range bytes at 2) n e in
    let fits : be part.0 < 256 ^ 2 = subst (λ k. be part.0 < 256 ^ k) (range-length bytes part.0 at 2 part.1) (be-fits part.0 (IsBytes-range bytes part.0 at 2 h part.1)) in
    omega (arith, part.2, fits)

-- ---- the number of a few bytes, by their offsets
pub be_one : (bytes : List ℕ) → length bytes ≡ 1 → be bytes ≡ get_or bytes 0 0
be_one [] e = absurd (omega arith)
be_one (a ∷ []) e = omega arith
be_one (a ∷ b ∷ bytes) e = absurd (omega arith)

pub be_two : (bytes : List ℕ) → length bytes ≡ 2 → be bytes ≡ get_or bytes 0 0 * 256 + get_or bytes 1 0
be_two [] e = absurd (omega arith)
be_two (a ∷ []) e = absurd (omega arith)
be_two (a ∷ b ∷ []) e = omega arith
be_two (a ∷ b ∷ c ∷ bytes) e = absurd (omega arith)

pub be_three : (bytes : List ℕ) → length bytes ≡ 3 → be bytes ≡ (get_or bytes 0 0 * 256 + get_or bytes 1 0) * 256 + get_or bytes 2 0
be_three [] e = absurd (omega arith)
be_three (a ∷ []) e = absurd (omega arith)
be_three (a ∷ b ∷ []) e = absurd (omega arith)
be_three (a ∷ b ∷ c ∷ []) e = omega arith
be_three (a ∷ b ∷ c ∷ d ∷ bytes) e = absurd (omega arith)

pub be_four : (bytes : List ℕ) → length bytes ≡ 4 → be bytes ≡ ((get_or bytes 0 0 * 256 + get_or bytes 1 0) * 256 + get_or bytes 2 0) * 256 + get_or bytes 3 0
be_four [] e = absurd (omega arith)
be_four (a ∷ []) e = absurd (omega arith)
be_four (a ∷ b ∷ []) e = absurd (omega arith)
be_four (a ∷ b ∷ c ∷ []) e = absurd (omega arith)
be_four (a ∷ b ∷ c ∷ d ∷ []) e = omega arith
be_four (a ∷ b ∷ c ∷ d ∷ f ∷ bytes) e = absurd (omega arith)

pub be_none : (bytes : List ℕ) → length bytes ≡ 0 → be bytes ≡ 0
be_none [] e = refl
be_none (a ∷ bytes) e = absurd (omega arith)

pub ruleset be_cases = (be_none, be_one, be_two, be_three, be_four)
