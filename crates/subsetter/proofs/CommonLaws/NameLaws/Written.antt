-- Records and strings of `name`.
use Rattle.std.proofs.Common.{◌≡◌, ℕ, zero, suc, ◌+◌, ◌*◌, ◌/◌, ◌%◌, ◌<◌, ◌≤◌, Bool, true, false, cond, leb, ◌||◌, ◌&&◌, List, [], ◌∷◌, ◌++◌, length, take, drop, Option, Some, None, Ok, Err, refl, sym, ap, ◌∙◌, arith}
use Rattle.std.specs.Prelude.{IfSome, flat_map}
use Rattle.std.specs.Int.{w16, to_be_bytes}
use Rattle.std.specs.Option.{option_and_then, option_map, unwrap_or}
use Rattle.std.specs.Str.{bytes_eq}
use Rattle.std.specs.Borrow.{Bor}
use Rattle.std.proofs.lemmas.Bool.{le-leb, leb-true, leb-false, lt-ltb, le-ltb, false≢true}
use Rattle.std.proofs.lemmas.List.{append-nil, length-append, length-drop, map-append, take-take, drop-take, take-append-drop, take_all, take-append-le}
use Rattle.std.proofs.lemmas.Grind.{flat_map-append}
use Rattle.subsetter_base.specs.Items.{values_of}
use Rattle.subsetter_base.specs.declared.error.Error.TheVariants.{SubsetError}
use Rattle.subsetter_base.proofs.Lists.{five_written, bytes_eq_is, bytes_eq_self}
use Rattle.subsetter_sfnt.specs.declared.fields.name.NameRecord.{NameRecord}
use Rattle.subsetter.specs.Common.Name.Read.{name_parts, name_records_in, name_bytes, among, string_offset, joined}
use Rattle.subsetter_sfnt.specs.Fields.Name.{name_record_of, name_record_bytes}
use Rattle.subsetter.specs.Common.Name.Plain.{placed_string}
use Rattle.subsetter.specs.declared.common.name.Table.{Table as ReadTable}
use Rattle.subsetter.specs.Common.Name.View.{nows, seen_parts, seen_table}

-- ---- strings among others

eq_turned : (a b : List ℕ) (r : Bool) → bytes_eq a b ≡ r → r ≡ false → bytes_eq b a ≡ false
eq_turned a b r e f = by (bytes_eq b a) refl
  where
    by : (q : Bool) → bytes_eq b a ≡ q → bytes_eq b a ≡ false
    by true t = absurd (false≢true (sym f ∙ sym e ∙ ap (bytes_eq a) (bytes_eq_is b a t) ∙ bytes_eq_self a))
    by false t = t

pub among-append : (ts us : List (List ℕ)) (q : List ℕ) → among (ts ++ us) q ≡ (among ts q || among us q)
among-append [] us q = refl
among-append (t ∷ ts) us q = by (bytes_eq q t) (among-append ts us q)
  where
    by : (b : Bool) → among (ts ++ us) q ≡ (among ts q || among us q) → (b || among (ts ++ us) q) ≡ ((b || among ts q) || among us q)
    by true e = refl
    by false e = e

-- a string that is there keeps its place
pub place_before : (ts us : List (List ℕ)) (q : List ℕ) → among ts q ≡ true → string_offset (ts ++ us) q ≡ string_offset ts q
place_before [] us q h = absurd (false≢true h)
place_before (t ∷ ts) us q h = by (bytes_eq q t) (λ k. place_before ts us q k) h
  where
    by : (b : Bool) → (among ts q ≡ true → string_offset (ts ++ us) q ≡ string_offset ts q) → (b || among ts q) ≡ true → cond b 0 (length t + string_offset (ts ++ us) q) ≡ cond b 0 (length t + string_offset ts q)
    by true e k = refl
    by false e k = ap (λ n. length t + n) (e k)

-- one that isn't comes after them
pub place_after : (ts us : List (List ℕ)) (q : List ℕ) → among ts q ≡ false → string_offset (ts ++ us) q ≡ length (joined ts) + string_offset us q
place_after [] us q h = omega arith
place_after (t ∷ ts) us q h = by (bytes_eq q t) (λ k. place_after ts us q k) h
  where
    by : (b : Bool) → (among ts q ≡ false → string_offset (ts ++ us) q ≡ length (joined ts) + string_offset us q) → (b || among ts q) ≡ false → cond b 0 (length t + string_offset (ts ++ us) q) ≡ length (joined (t ∷ ts)) + string_offset us q
    by true e k = absurd (false≢true (sym k))
    by false e k = omega (arith, e k, length-append t (joined ts))

pub place_new : (ts : List (List ℕ)) (q : List ℕ) → among ts q ≡ false → string_offset ts q ≡ length (joined ts)
place_new ts q h = ap (λ l. string_offset l q) (sym (append-nil ts)) ∙ place_after ts [] q h ∙ omega arith

-- the places after a string was put at the end
pub places_more : (ts : List (List ℕ)) (s q : List ℕ) (n : ℕ) → among ts s ≡ false → n ≡ length (joined ts)
    → cond (bytes_eq s q) (Some n) (cond (among ts q) (Some (string_offset ts q)) None) ≡ cond (among (ts ++ s ∷ []) q) (Some (string_offset (ts ++ s ∷ []) q)) None
places_more ts s q n absent is = by (bytes_eq s q) refl
  where
    known : (a : Bool) → among ts q ≡ a → bytes_eq q s ≡ false → cond a (Some (string_offset ts q)) None ≡ cond (a || (bytes_eq q s || false)) (Some (string_offset (ts ++ s ∷ []) q)) None
    known true a d = ap Some (sym (place_before ts (s ∷ []) q a))
    known false a d = ap (λ b. cond (b || false) (Some (string_offset (ts ++ s ∷ []) q)) None) (sym d)

    by : (b : Bool) → bytes_eq s q ≡ b → cond b (Some n) (cond (among ts q) (Some (string_offset ts q)) None) ≡ cond (among (ts ++ s ∷ []) q) (Some (string_offset (ts ++ s ∷ []) q)) None
    by true t =
        let e : s ≡ q = bytes_eq_is s q t in
        let none : among ts q ≡ false = ap (among ts) (sym e) ∙ absent in
        let self : bytes_eq q s ≡ true = ap (λ x. bytes_eq x s) (sym e) ∙ bytes_eq_self s in
        let there : among (ts ++ s ∷ []) q ≡ true = among-append ts (s ∷ []) q ∙ ap (λ b. b || (bytes_eq q s || false)) none ∙ ap (λ b. b || false) self in
        let at : string_offset (ts ++ s ∷ []) q ≡ length (joined ts) = place_after ts (s ∷ []) q none ∙ ap (λ b. length (joined ts) + cond b 0 (length s + 0)) self ∙ omega arith in
        ap Some (is ∙ sym at) ∙ ap (λ b. cond b (Some (string_offset (ts ++ s ∷ []) q)) None) (sym there)
    by false t =
        known (among ts q) refl (eq_turned s q false t refl) ∙ ap (λ b. cond b (Some (string_offset (ts ++ s ∷ []) q)) None) (sym (among-append ts (s ∷ []) q))

pub nows-push : (bs : List (Bor (List ℕ))) (b : Bor (List ℕ)) → nows (bs ++ b ∷ []) ≡ nows bs ++ b.now ∷ []
nows-push bs b = map-append (λ (x : Bor (List ℕ)). x.now) bs (b ∷ [])

pub joined-push : (ts : List (List ℕ)) (s : List ℕ) → length (joined (ts ++ s ∷ [])) ≡ length (joined ts) + length s
joined-push ts s = ap length (flat_map-append (λ (t : List ℕ). t) ts (s ∷ [])) ∙ length-append (joined ts) (s ++ []) ∙ ap (λ l. length (joined ts) + length l) (append-nil s)

-- where the map has nothing the string is new
pub is_new : (b : Bool) (n : ℕ) → cond b (Some n) None ≡ None → b ≡ false
is_new true n h = absurd cc
is_new false n h = refl

-- the first of some strings is the one that is looked for, or it isn't
pub found_first : (ts others : List (List ℕ)) (t q : List ℕ) (at : ℕ) (total : Option ℕ) → ts ≡ t ∷ others → bytes_eq t q ≡ true → cond (among ts q) (Some (at + string_offset ts q)) None ≡ total → Some at ≡ total
found_first ts others t q at total is eq h =
    let k : bytes_eq q t ≡ true = sym (ap (λ x. bytes_eq x t) (bytes_eq_is t q eq)) ∙ bytes_eq_self t in
    let split : cond (among ts q) (Some (at + string_offset ts q)) None ≡ cond (among (t ∷ others) q) (Some (at + string_offset (t ∷ others) q)) None = ap (λ l. cond (among l q) (Some (at + string_offset l q)) None) is in
    let now : cond (among (t ∷ others) q) (Some (at + string_offset (t ∷ others) q)) None ≡ Some (at + 0) = ap (λ b. cond (b || among others q) (Some (at + cond b 0 (length t + string_offset others q))) None) k in
    let same : at ≡ at + 0 = omega arith in
    ap Some same ∙ sym now ∙ sym split ∙ h

pub found_later : (ts others : List (List ℕ)) (t q : List ℕ) (at : ℕ) (total : Option ℕ) → ts ≡ t ∷ others → bytes_eq t q ≡ false → cond (among ts q) (Some (at + string_offset ts q)) None ≡ total → cond (among others q) (Some (at + length t + string_offset others q)) None ≡ total
found_later ts others t q at total is eq h =
    let k : bytes_eq q t ≡ false = eq_turned t q false eq refl in
    let split : cond (among ts q) (Some (at + string_offset ts q)) None ≡ cond (among (t ∷ others) q) (Some (at + string_offset (t ∷ others) q)) None = ap (λ l. cond (among l q) (Some (at + string_offset l q)) None) is in
    let now : cond (among (t ∷ others) q) (Some (at + string_offset (t ∷ others) q)) None ≡ cond (among others q) (Some (at + (length t + string_offset others q))) None = ap (λ b. cond (b || among others q) (Some (at + cond b 0 (length t + string_offset others q))) None) k in
    let same : at + length t + string_offset others q ≡ at + (length t + string_offset others q) = omega arith in
    ap (λ n. cond (among others q) (Some n) None) same ∙ sym now ∙ sym split ∙ h

pub joined-first : (ts others : List (List ℕ)) (t : List ℕ) (at total : ℕ) → ts ≡ t ∷ others → at + length (joined ts) ≡ total → at + length t + length (joined others) ≡ total
joined-first ts others t at total is h = omega (arith, ap (λ l. length (joined l)) is, length-append t (joined others))

-- the first of some strings
pub nows-take : (n : ℕ) (bs : List (Bor (List ℕ))) → nows (take n bs) ≡ take n (nows bs)
nows-take zero bs = refl
nows-take (suc n) [] = refl
nows-take (suc n) (b ∷ bs) = ap (λ l. b.now ∷ l) (nows-take n bs)

pub joined-take : (n : ℕ) (ts : List (List ℕ)) → length (joined (take n ts)) ≤ length (joined ts)
joined-take zero ts = omega arith
joined-take (suc n) [] = omega arith
joined-take (suc n) (t ∷ ts) = omega (arith, joined-take n ts, length-append t (joined (take n ts)), length-append t (joined ts))

pub near_is : (n : ℕ) (ts : List (List ℕ)) (q : List ℕ) (p : ℕ) → Some p ≡ cond (among (take n ts) q) (Some (string_offset (take n ts) q)) None → Some p ≡ cond (among ts q) (Some (string_offset ts q)) None
near_is n ts q p h = by (among (take n ts) q) refl h
  where
    by : (b : Bool) → among (take n ts) q ≡ b → Some p ≡ cond b (Some (string_offset (take n ts) q)) None → Some p ≡ cond (among ts q) (Some (string_offset ts q)) None
    by true t k =
        let all = take-append-drop n ts in
        let there : among ts q ≡ true = ap (λ l. among l q) (sym all) ∙ among-append (take n ts) (drop n ts) q ∙ ap (λ b. b || among (drop n ts) q) t in
        let at : string_offset ts q ≡ string_offset (take n ts) q = ap (λ l. string_offset l q) (sym all) ∙ place_before (take n ts) (drop n ts) q t in
        k ∙ ap Some (sym at) ∙ sym (ap (λ b. cond b (Some (string_offset ts q)) None) there)
    by false t k = absurd cc

-- where a string that is found or comes last begins
pub placed_at : (ts : List (List ℕ)) (s : List ℕ) (size n : ℕ) (found : Option ℕ) → found ≡ cond (among ts s) (Some (string_offset ts s)) None → n ≡ unwrap_or found size → size ≡ length (joined ts) → string_offset ts s ≡ n
placed_at ts s size n found f is long = by (among ts s) refl f
  where
    by : (b : Bool) → among ts s ≡ b → found ≡ cond b (Some (string_offset ts s)) None → string_offset ts s ≡ n
    by true t k = sym (is ∙ ap (λ (o : Option ℕ). unwrap_or o size) k)
    by false t k = place_new ts s t ∙ sym long ∙ sym (is ∙ ap (λ (o : Option ℕ). unwrap_or o size) k)

-- the places of the further strings after one was put at the end
pub far_more : (ts : List (List ℕ)) (s q : List ℕ) (n : ℕ) (old new : Option ℕ) → among ts s ≡ false → n ≡ length (joined ts) → new ≡ cond (leb 32 (length ts) && bytes_eq s q) (Some n) old
    → (among (take 32 ts) q ≡ false → old ≡ cond (among ts q) (Some (string_offset ts q)) None) → among (take 32 (ts ++ s ∷ [])) q ≡ false → new ≡ cond (among (ts ++ s ∷ []) q) (Some (string_offset (ts ++ s ∷ []) q)) None
far_more ts s q n old new absent at is before h = by (leb 32 (length ts)) refl is
  where
    left_false : (a b : Bool) → (a || b) ≡ false → a ≡ false
    left_false true b e = e
    left_false false b e = refl

    by : (b : Bool) → leb 32 (length ts) ≡ b → new ≡ cond (b && bytes_eq s q) (Some n) old → new ≡ cond (among (ts ++ s ∷ []) q) (Some (string_offset (ts ++ s ∷ []) q)) None
    by true t k =
        let long : 32 ≤ length ts = leb-true _ _ t in
        let near : among (take 32 ts) q ≡ false = ap (λ l. among l q) (sym (take-append-le 32 ts (s ∷ []) long)) ∙ h in
        k ∙ ap (cond (bytes_eq s q) (Some n)) (before near) ∙ places_more ts s q n absent at
    by false t k =
        let few : length ts < 32 = leb-false _ _ t in
        let whole : take 32 (ts ++ s ∷ []) ≡ ts ++ s ∷ [] = take_all 32 (ts ++ s ∷ []) (omega (arith, length-append ts (s ∷ []))) in
        let none : among (ts ++ s ∷ []) q ≡ false = ap (λ l. among l q) (sym whole) ∙ h in
        let old_none : among ts q ≡ false = left_false (among ts q) _ (sym (among-append ts (s ∷ []) q) ∙ none) in
        let near : among (take 32 ts) q ≡ false = ap (λ l. among l q) (take_all 32 ts (omega arith)) ∙ old_none in
        k ∙ before near ∙ ap (λ b. cond b (Some (string_offset ts q)) None) old_none ∙ sym (ap (λ b. cond b (Some (string_offset (ts ++ s ∷ []) q)) None) none)

-- a string's place fits 16 bits, or not
pub fits_16 : (ts : List (List ℕ)) (s : List ℕ) (n : ℕ) → string_offset ts s ≡ n → n < 65536 → placed_string ts s ≡ Ok n
fits_16 ts s n is lt = ap (λ b. cond b (Ok (string_offset ts s)) (Err SubsetError)) (lt-ltb _ _ (omega arith)) ∙ ap Ok is

pub too_far : (ts : List (List ℕ)) (s : List ℕ) (n : ℕ) → string_offset ts s ≡ n → 65535 < n → placed_string ts s ≡ Err SubsetError
too_far ts s n is lt = ap (λ b. cond b (Ok (string_offset ts s)) (Err SubsetError)) (le-ltb _ _ (omega arith))

-- the records that an array of bytes gives
pub field_of : (x : List ℕ) (k m : ℕ) → 2 ≤ m → take 2 (drop k (take (k + m) x)) ≡ take 2 (drop k x)
field_of x k m h = ap (take 2) (drop-take k m x) ∙ take-take 2 m (drop k x) h

pub name_record_of-take : (x : List ℕ) → name_record_of (take 12 x) ≡ name_record_of x
name_record_of-take x =
    let a : take 2 (take 12 x) ≡ take 2 x = take-take 2 12 x (omega arith) in
    let b = field_of x 2 10 (omega arith) in
    let c = field_of x 4 8 (omega arith) in
    let d = field_of x 6 6 (omega arith) in
    let e = field_of x 8 4 (omega arith) in
    let f = field_of x 10 2 (omega arith) in
    cc

pub record_values : (n : ℕ) (bytes : List ℕ) → n * 12 ≤ length bytes → values_of 12 (λ (b : List ℕ). Some (name_record_of b)) n bytes ≡ name_records_in n bytes
record_values zero bytes h = refl
record_values (suc n) bytes h =
    by (leb 12 (length bytes)) (le-leb _ _ (omega arith)) (record_values n (drop 12 bytes) (omega (arith, length-drop 12 bytes)))
  where
    by : (q : Bool) → q ≡ true → values_of 12 (λ (b : List ℕ). Some (name_record_of b)) n (drop 12 bytes) ≡ name_records_in n (drop 12 bytes)
        → elim (option_and_then (λ (b : List ℕ). Some (name_record_of b)) (cond q (Some (take 12 bytes)) None)) [ None ↦ [] | Some x ↦ x ∷ values_of 12 (λ (b : List ℕ). Some (name_record_of b)) n (drop 12 bytes) ] ≡ name_record_of bytes ∷ name_records_in n (drop 12 bytes)
    by true t more = let one = name_record_of-take bytes in cc
    by false t more = absurd (false≢true t)

-- the parts of a table by the records that a walk yields
pub walked : (bytes : List ℕ) (o : Option ReadTable) → option_map seen_parts o ≡ name_parts bytes → IfSome o (λ t. length t.records.bytes ≡ t.records.count * 12) → option_map seen_table o ≡ name_parts bytes
walked bytes None h whole = h
walked bytes (Some t) h whole = ap (λ (rs : List NameRecord). Some (record { records = rs; storage = t.storage.now })) (record_values t.records.count t.records.bytes (omega arith)) ∙ h

-- version, count, the storage's offset, the records and the storage, in turn
pub table_written : (w : List ℕ) (records : List NameRecord) (storage w1 w2 w3 w4 w5 : List ℕ) → w1 ≡ w ++ to_be_bytes w16 0 → w2 ≡ w1 ++ to_be_bytes w16 (length records % 65536) → w3 ≡ w2 ++ to_be_bytes w16 ((6 + 12 * (length records % 65536)) % 65536)
    → w4 ≡ w3 ++ flat_map name_record_bytes records → w5 ≡ w4 ++ storage → w5 ≡ w ++ name_bytes records storage
unfolding name_bytes
table_written w records storage w1 w2 w3 w4 w5 h1 h2 h3 h4 h5 =
    let n = length records in
    let count : to_be_bytes w16 (n % 65536) ≡ to_be_bytes w16 n = low_16 (n % 65536) n (omega arith) in
    let place : to_be_bytes w16 ((6 + 12 * (n % 65536)) % 65536) ≡ to_be_bytes w16 (6 + 12 * n) = low_16 ((6 + 12 * (n % 65536)) % 65536) (6 + 12 * n) (omega arith) in
    five_written w (to_be_bytes w16 0) (to_be_bytes w16 n) (to_be_bytes w16 (6 + 12 * n)) (flat_map name_record_bytes records) storage w1 w2 w3 w4 w5 h1 (h2 ∙ ap (λ (l : List ℕ). w1 ++ l) count) (h3 ∙ ap (λ (l : List ℕ). w2 ++ l) place) h4 h5
  where
    low_16 : (a b : ℕ) → a % 65536 ≡ b % 65536 → to_be_bytes w16 a ≡ to_be_bytes w16 b
    low_16 a b e =
        let high : a / 256 % 256 ≡ b / 256 % 256 = omega arith in
        let low : a % 256 ≡ b % 256 = omega arith in
        ap (λ (x : ℕ). x ∷ a % 256 ∷ []) high ∙ ap (λ (x : ℕ). b / 256 % 256 ∷ x ∷ []) low
