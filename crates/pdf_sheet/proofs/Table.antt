-- In the table of a file each object is found.
use Rattle.std.proofs.Common.{◌≡◌, ◌≤◌, ◌<◌, ℕ, suc, zero, ◌+◌, ◌*◌, ◌/◌, ◌%◌, ◌^◌, List, [], ◌∷◌, ◌++◌, length, get_or, take, drop, refl, sym, ap, subst, ◌∙◌, append_assoc, arith, length-append}
use Rattle.std.specs.Prelude.{codes}
use Rattle.std.specs.List.{concat}
use Rattle.std.specs.Char.{digit_value}
use Rattle.std.specs.Str.Parse.{digits_value}
use Rattle.std.proofs.Math.Seq.{drop-append_seam, take-append_seam, drop-append-add}
use Rattle.std.proofs.lemmas.List.{get_or_default}
use Rattle.std.proofs.lemmas.Int.Digits.{digits_value_push}
use Rattle.std.proofs.lemmas.Str.{digit_value_digit}
use Rattle.pdf_text.specs.Objects.{object_text, objects_from, offsets_from, IsObjectAt}
use Rattle.pdf_text.proofs.ObjectLaws.At.{are_at}
use Rattle.pdf_sheet.specs.File.{header, body_of, offsets_of, digits, row, rows, table_front, trailer, table_and_trailer, file_of, listed_offset, AreInTable, ObjectsAreInTable}

-- ---- digits

pub length-digits : (count n : ℕ) → length (digits count n) ≡ count
length-digits zero n = refl
length-digits (suc count) n =
    let size : length (digits count (n / 10)) ≡ count = length-digits count (n / 10) in
    omega (arith, length-append (digits count (n / 10)) ((48 + n % 10) ∷ []))

last_read : (d : ℕ) → d < 10 → digit_value (48 + d) ≡ d
last_read d l = let e : digit_value (48 + d) + 48 ≡ 48 + d = digit_value_digit (48 + d) (omega arith, omega arith) in omega arith

joined : (a n v d : ℕ) → a ≡ v * 10 + d → v ≡ n / 10 → d ≡ n % 10 → a ≡ n
joined a n v d e f g = omega arith

pub digits_read : (count n : ℕ) → n < 10 ^ count → digits_value 10 (digits count n) ≡ n
digits_read zero n l = omega arith
digits_read (suc count) n l =
    joined (digits_value 10 (digits (suc count) n)) n (digits_value 10 (digits count (n / 10))) (digit_value (48 + n % 10))
    (digits_value_push 10 (digits count (n / 10)) (48 + n % 10)) (digits_read count (n / 10) (omega arith)) (last_read (n % 10) (omega arith))

-- ---- entries

length-row : (o : ℕ) → length (row o) ≡ 20
length-row o = let size : length (digits 10 o) ≡ 10 = length-digits 10 o in omega (arith, length-append (digits 10 o) (codes " 00000 n \n"))

front_read : (o : ℕ) (rest : List ℕ) → take 10 (row o ++ rest) ≡ digits 10 o
front_read o rest =
    ap (λ (l : List ℕ). take 10 l) (append_assoc (digits 10 o) (codes " 00000 n \n") rest)
    ∙ ap (λ n. take n (digits 10 o ++ (codes " 00000 n \n" ++ rest))) (sym (length-digits 10 o)) ∙ take-append_seam (digits 10 o) (codes " 00000 n \n" ++ rest)

row_passed : (o k : ℕ) (rest : List ℕ) → drop (20 * suc k) (row o ++ rest) ≡ drop (20 * k) rest
row_passed o k rest =
    let e : 20 * suc k ≡ length (row o) + 20 * k = omega (arith, length-row o) in
    ap (λ n. drop n (row o ++ rest)) e ∙ drop-append-add (row o) rest (20 * k)

row_at : (os rest : List ℕ) (k : ℕ) → k < length os → take 10 (drop (20 * k) (rows os ++ rest)) ≡ digits 10 (get_or os k 0)
row_at [] rest k l = absurd (omega arith)
row_at (o ∷ os) rest zero l = ap (λ (t : List ℕ). take 10 t) (append_assoc (row o) (rows os) rest) ∙ front_read o (rows os ++ rest)
row_at (o ∷ os) rest (suc k) l =
    ap (λ (t : List ℕ). take 10 (drop (20 * suc k) t)) (append_assoc (row o) (rows os) rest)
    ∙ ap (λ (t : List ℕ). take 10 t) (row_passed o k (rows os ++ rest)) ∙ row_at os rest k (omega arith)

-- ---- objects

pub length-offsets : (b n : ℕ) (values : List (List ℕ)) → length (offsets_from b (objects_from n values)) ≡ length values
length-offsets b n [] = refl
length-offsets b n (v ∷ vs) = ap suc (length-offsets (b + length (object_text n v)) (n + 1) vs)

-- offsets after a front
pub offsets_after : (f b d : ℕ) (ts : List (List ℕ)) (k : ℕ) → get_or (offsets_from (f + b) ts) k (f + d) ≡ f + get_or (offsets_from b ts) k d
offsets_after f b d [] k = refl
offsets_after f b d (t ∷ ts) zero = refl
offsets_after f b d (t ∷ ts) (suc k) =
    let e : (f + b) + length t ≡ f + (b + length t) = omega arith in
    ap (λ n. get_or (offsets_from n ts) k (f + d)) e ∙ offsets_after f (b + length t) d ts k

wrapped : (a b c d e : List ℕ) → (a ++ (b ++ (c ++ d))) ++ e ≡ (a ++ b) ++ (c ++ (d ++ e))
wrapped a b c d e = simp append_assoc

-- an object in a longer text
within : (front text back : List ℕ) (o e n : ℕ) (v : List ℕ) → IsObjectAt text o e n v → IsObjectAt ((front ++ text) ++ back) (length front + o) (length front + e) n v
within front text back o e n v h =
    let ends : o + length (object_text n v) ≡ e = h.ends in
    record {
      before = front ++ h.before;
      after = h.after ++ back;
      whole = ap (λ (t : List ℕ). (front ++ t) ++ back) h.whole ∙ wrapped front h.before (object_text n v) h.after back;
      begins = length-append front h.before ∙ ap (λ m. length front + m) h.begins;
      ends = omega arith;
    }

below : (text : List ℕ) (o e n : ℕ) (v : List ℕ) → IsObjectAt text o e n v → o ≤ length text
below text o e n v h =
    let begins : length h.before ≡ o = h.begins in
    let size : length text ≡ length h.before + length (object_text n v ++ h.after) = ap length h.whole ∙ length-append h.before (object_text n v ++ h.after) in
    omega arith

-- ---- the table

rest_found : (body front rest : List ℕ) → drop (length body + length front) (body ++ (front ++ rest)) ≡ rest
rest_found body front rest = drop-append-add body (front ++ rest) (length front) ∙ drop-append_seam front rest

said_by : (body front rest : List ℕ) (os : List ℕ) (k : ℕ) → k < length os → get_or os k 0 < 10 ^ 10 → digits_value 10 (take 10 (drop (20 * k) (drop (length body + length front) (body ++ (front ++ (rows os ++ rest)))))) ≡ get_or os k 0
said_by body front rest os k l small =
    ap (λ (t : List ℕ). digits_value 10 (take 10 (drop (20 * k) t))) (rest_found body front (rows os ++ rest))
    ∙ ap (λ (t : List ℕ). digits_value 10 t) (row_at os rest k l) ∙ digits_read 10 (get_or os k 0) small

said : (values : List (List ℕ)) (k : ℕ) → k < length values → get_or (offsets_of values) k 0 < 10 ^ 10 → listed_offset (file_of values) (length (body_of values)) (length values) k ≡ get_or (offsets_of values) k 0
said values k l small =
    let size : length (offsets_of values) ≡ length values = length-offsets (length header) 1 values in
    ap (λ n. listed_offset (file_of values) (length (body_of values)) n k) (sym size)
    ∙ said_by (body_of values) (table_front (length (offsets_of values) + 1)) (trailer (length (offsets_of values) + 1) (length (body_of values))) (offsets_of values) k (omega arith) small

-- ---- both

moved : (text : List ℕ) (o o1 e e1 n : ℕ) (v : List ℕ) → o ≡ o1 → e ≡ e1 → IsObjectAt text o e n v → IsObjectAt text o1 e1 n v
moved text o o1 e e1 n v p q h = subst (λ m. IsObjectAt text m e1 n v) p (subst (λ m. IsObjectAt text o m n v) q h)

own_offset : (values : List (List ℕ)) (k : ℕ) → k < length values → get_or (offsets_of values) k 0 ≡ length header + get_or (offsets_from 0 (objects_from 1 values)) k 0
own_offset values k l =
    let size : length (offsets_of values) ≡ length values = length-offsets (length header) 1 values in
    get_or_default (offsets_of values) k 0 (length header + 0) (omega arith) ∙ offsets_after (length header) 0 0 (objects_from 1 values) k

next_offset : (values : List (List ℕ)) (k : ℕ) → get_or (offsets_of values) k (length (body_of values)) ≡ length header + get_or (offsets_from 0 (objects_from 1 values)) k (length (concat (objects_from 1 values)))
next_offset values k =
    ap (λ n. get_or (offsets_of values) k n) (length-append header (concat (objects_from 1 values)))
    ∙ offsets_after (length header) 0 (length (concat (objects_from 1 values))) (objects_from 1 values) k

pub are_in_table : ObjectsAreInTable
are_in_table values small k l =
    let ts = objects_from 1 values in
    let h : IsObjectAt (concat ts) (get_or (offsets_from 0 ts) k 0) (get_or (offsets_from 0 ts) (k + 1) (length (concat ts))) (1 + k) (get_or values k []) = are_at 1 values k l in
    let most : get_or (offsets_from 0 ts) k 0 ≤ length (concat ts) = below (concat ts) (get_or (offsets_from 0 ts) k 0) (get_or (offsets_from 0 ts) (k + 1) (length (concat ts))) (1 + k) (get_or values k []) h in
    let size : length (body_of values) ≡ length header + length (concat ts) = length-append header (concat ts) in
    let own : get_or (offsets_of values) k 0 ≡ length header + get_or (offsets_from 0 ts) k 0 = own_offset values k l in
    moved (file_of values) (length header + get_or (offsets_from 0 ts) k 0) (listed_offset (file_of values) (length (body_of values)) (length values) k)
    (length header + get_or (offsets_from 0 ts) (k + 1) (length (concat ts))) (get_or (offsets_of values) (k + 1) (length (body_of values))) (1 + k) (get_or values k [])
    (sym (said values k l (omega arith) ∙ own)) (sym (next_offset values (k + 1)))
    (within header (concat ts) (table_and_trailer (offsets_of values) (length (body_of values))) (get_or (offsets_from 0 ts) k 0) (get_or (offsets_from 0 ts) (k + 1) (length (concat ts))) (1 + k) (get_or values k []) h)

-- ---- a file that is written

pub file_written : (values : List (List ℕ)) (text offsets new : List ℕ) → text ≡ body_of values → offsets ≡ offsets_of values → new ≡ text ++ table_and_trailer offsets (length text) → new ≡ file_of values
file_written values text offsets new e f g =
    g ∙ ap (λ (l : List ℕ). l ++ table_and_trailer offsets (length l)) e ∙ ap (λ (os : List ℕ). body_of values ++ table_and_trailer os (length (body_of values))) f

pub file_in_table : (values : List (List ℕ)) (text new : List ℕ) (size : ℕ) → text ≡ body_of values → size ≡ length text → size < 10000000000 → new ≡ file_of values → AreInTable new (length (body_of values)) values
file_in_table values text new size e s small f =
    let same : length text ≡ length (body_of values) = ap length e in
    subst (λ (file : List ℕ). AreInTable file (length (body_of values)) values) (sym f) (are_in_table values (omega arith))
