-- What was laid out is read back.
use Rattle.std.proofs.Common.{◌≡◌, ℕ, ◌+◌, ◌-◌, ◌*◌, ◌/◌, ◌%◌, ◌^◌, ◌<◌, Bool, true, false, cond, List, [], ◌∷◌, ◌++◌, length, take, drop, Option, Some, refl, sym, ap, ◌∙◌, append_assoc, ◌⊎◌, inl, inr, arith}
use Rattle.std.specs.Prelude.{map, find, replicate, codes}
use Rattle.std.specs.Option.{option_and_then, option_map}
use Rattle.std.specs.List.{AllByRecursion}
use Rattle.std.specs.Str.{bytes_eq}
use Rattle.std.specs.Int.{w16, w32, to_be_bytes}
use Rattle.std.proofs.lemmas.List.{append-nil, take_at, drop_at, length-append}
use Rattle.subsetter_base.specs.Bytes.{be, range, number, aligned}
use Rattle.subsetter_base.proofs.ByteLemmas.{range-middle, be-u16, be-u32, number_at}
use Rattle.subsetter_sfnt.specs.declared.face.TableRecord.{TableRecord}
use Rattle.subsetter_sfnt.specs.declared.face.FontKind.TheVariants.{Single}
use Rattle.subsetter_sfnt.specs.Read.{as_font, kind_of, kind_at, header_by_kind, header_offset, records_at, records, directory, table, table_in, record_of, directory_records, find_record}
use Rattle.subsetter_sfnt.specs.Laying.Checksum.{checksum}
use Rattle.subsetter_sfnt.specs.Laying.Written.{Table, selector, header_bytes, record_bytes, directory_bytes, body, front, adjusted, adjustment, with_adjustment, file, fits, start_of, IsTable}
use Rattle.subsetter_sfnt.proofs.Laws.LayingLaws.Checksum.{checksum_fits}
use Rattle.subsetter_sfnt.proofs.Laws.LayingLaws.Written.{length-record, length-directory, length-header, length-front, length-adjusted, aligned_len, fitting}

-- ---- numbers and ranges

-- ---- the records of the directory

-- the record of a table at an offset
abbrev pub record_at : ℕ → Table → TableRecord
record_at at t = record { tag = record { 0 = t.tag }; checksum = checksum t.bytes; offset = at; length = length t.bytes }

abbrev pub records_from : ℕ → List Table → List TableRecord
records_from at [] = []
records_from at (t ∷ ts) = record_at at t ∷ records_from (at + length (aligned 4 t.bytes)) ts

-- four fields of four bytes
pub fields : (a b c d rest : List ℕ) → length a ≡ 4 → length b ≡ 4 → length c ≡ 4 → length d ≡ 4 →
    record_of ((a ++ b ++ c ++ d) ++ rest) ≡ record { tag = record { 0 = a }; checksum = be b; offset = be c; length = be d }
fields a b c d rest la lb lc ld =
    let x = (a ++ b ++ c ++ d) ++ rest in
    let e0 : x ≡ a ++ (b ++ (c ++ (d ++ rest))) = simp append_assoc in
    let e4 : drop 4 x ≡ b ++ (c ++ (d ++ rest)) = ap (drop 4) e0 ∙ drop_at a _ 4 la in
    let e8 : drop 8 x ≡ c ++ (d ++ rest) = ap (drop 8) (e0 ∙ sym (append_assoc a b _)) ∙ drop_at (a ++ b) _ 8 (omega (arith, length-append a b)) in
    let e12 : drop 12 x ≡ d ++ rest = ap (drop 12) (e0 ∙ sym (append_assoc a b _) ∙ sym (append_assoc (a ++ b) c _)) ∙ drop_at (a ++ b ++ c) _ 12 (omega (arith, length-append a b, length-append (a ++ b) c)) in
    let t0 : take 4 x ≡ a = ap (take 4) e0 ∙ take_at a _ 4 la in
    let t4 : take 4 (drop 4 x) ≡ b = ap (take 4) e4 ∙ take_at b _ 4 lb in
    let t8 : take 4 (drop 8 x) ≡ c = ap (take 4) e8 ∙ take_at c _ 4 lc in
    let t12 : take 4 (drop 12 x) ≡ d = ap (take 4) e12 ∙ take_at d _ 4 ld in
    cc

first_back : (at : ℕ) (t : Table) (ts : List Table) (rest : List ℕ) → IsTable t → fits at (t ∷ ts) ≡ true → record_of (record_bytes at t ++ rest) ≡ record_at at t
first_back at t ts rest is h =
    let f = fitting at t ts h in
    let cs = be-u32 (checksum t.bytes) (checksum_fits t.bytes) in
    let pl = be-u32 at f.offset in
    let ln = be-u32 (length t.bytes) f.len in
    let got = fields t.tag (to_be_bytes w32 (checksum t.bytes)) (to_be_bytes w32 at) (to_be_bytes w32 (length t.bytes)) rest is.tag_len refl refl refl in
    got ∙ ap (λ (n : ℕ). record { tag = record { 0 = t.tag }; checksum = n; offset = be (to_be_bytes w32 at); length = be (to_be_bytes w32 (length t.bytes)) }) cs
    ∙ ap (λ (n : ℕ). record { tag = record { 0 = t.tag }; checksum = checksum t.bytes; offset = n; length = be (to_be_bytes w32 (length t.bytes)) }) pl
    ∙ ap (λ (n : ℕ). record { tag = record { 0 = t.tag }; checksum = checksum t.bytes; offset = at; length = n }) ln

-- the directory is read back
pub records_back : (at : ℕ) (ts : List Table) → AllByRecursion IsTable ts → fits at ts ≡ true → directory_records (length ts) (directory_bytes at ts) ≡ records_from at ts
records_back at [] all h = refl
records_back at (t ∷ ts) all h =
    let next = at + length (aligned 4 t.bytes) in
    let D = directory_bytes next ts in
    let after : drop 16 (record_bytes at t ++ D) ≡ D = drop_at (record_bytes at t) D 16 (length-record at t all.0) in
    let others = ap (directory_records (length ts)) after ∙ records_back next ts all.1 (fitting at t ts h).rest in
    ap (λ (r : TableRecord). r ∷ directory_records (length ts) (drop 16 (record_bytes at t ++ D))) (first_back at t ts D all.0 h) ∙ ap (λ (rs : List TableRecord). record_at at t ∷ rs) others

-- ---- tables

abbrev pub find_table : List ℕ → List Table → Option (List ℕ)
find_table tag ts = option_map (λ (t : Table). t.bytes) (find (λ (t : Table). bytes_eq t.tag tag) ts)

kept_tag : (b : Bool) (t : Table) (bytes : List ℕ) → (cond b (record { tag = t.tag; bytes = bytes }) t).tag ≡ t.tag
kept_tag true t bytes = refl
kept_tag false t bytes = refl

pub same_tag : (word : ℕ) (t : Table) → (adjusted word t).tag ≡ t.tag
same_tag word t = kept_tag (bytes_eq t.tag (codes "head")) t (with_adjustment word t.bytes)

choose : {A B C : Type 0} (b : Bool) (f : A → Option B) (g : C → B) (r : A) (o : Option A) (x : C) (p : Option C) → f r ≡ Some (g x) → option_and_then f o ≡ option_map g p → option_and_then f (cond b (Some r) o) ≡ option_map g (cond b (Some x) p)
choose true f g r o x p h k = h
choose false f g r o x p h k = k

-- each table is read back where its record says
pub tables_back : (pre post : List ℕ) (word : ℕ) (tag : List ℕ) (ts : List Table) (bytes : List ℕ) → AllByRecursion IsTable ts → bytes ≡ pre ++ (body (map (adjusted word) ts) ++ post)
    → option_and_then (λ e. range bytes e.offset e.length) (find_record tag (records_from (length pre) ts)) ≡ find_table tag (map (adjusted word) ts)
tables_back pre post word tag [] bytes all is = refl
tables_back pre post word tag (t ∷ ts) bytes all is =
    let A = adjusted word t in
    let zeros = replicate ((4 - length A.bytes % 4) % 4) 0 in
    let rest = body (map (adjusted word) ts) in
    let same : length A.bytes ≡ length t.bytes = length-adjusted word t all.0 in
    let split : bytes ≡ pre ++ (A.bytes ++ (zeros ++ (rest ++ post))) = is ∙ ap (λ (l : List ℕ). pre ++ l) (append_assoc (A.bytes ++ zeros) rest post ∙ append_assoc A.bytes zeros (rest ++ post)) in
    let here : range bytes (length pre) (length t.bytes) ≡ Some A.bytes = range-middle bytes pre A.bytes (zeros ++ (rest ++ post)) (length pre) (length t.bytes) split refl (sym same) in
    let next : length (pre ++ aligned 4 A.bytes) ≡ length pre + length (aligned 4 t.bytes) = length-append pre (aligned 4 A.bytes) ∙ ap (λ (n : ℕ). length pre + n) (aligned_len A.bytes t.bytes same) in
    let beyond : bytes ≡ (pre ++ aligned 4 A.bytes) ++ (rest ++ post) = is ∙ ap (λ (l : List ℕ). pre ++ l) (append_assoc (aligned 4 A.bytes) rest post) ∙ sym (append_assoc pre (aligned 4 A.bytes) (rest ++ post)) in
    let later = ap (λ (n : ℕ). option_and_then (λ e. range bytes e.offset e.length) (find_record tag (records_from n ts))) (sym next) ∙ tables_back (pre ++ aligned 4 A.bytes) post word tag ts bytes all.1 beyond in
    choose (bytes_eq t.tag tag) (λ (e : TableRecord). range bytes e.offset e.length) (λ (x : Table). x.bytes) (record_at (length pre) t) (find_record tag (records_from (length pre + length (aligned 4 t.bytes)) ts)) A (find (λ (x : Table). bytes_eq x.tag tag) (map (adjusted word) ts)) here later
    ∙ ap (λ (x : List ℕ). option_map (λ (y : Table). y.bytes) (cond (bytes_eq x tag) (Some A) (find (λ (y : Table). bytes_eq y.tag tag) (map (adjusted word) ts)))) (sym (same_tag word t))

-- ---- the whole file

seven : (a b c d e f g : List ℕ) → ((a ++ b ++ c ++ d ++ e) ++ f) ++ g ≡ a ++ (b ++ (c ++ (d ++ (e ++ (f ++ g)))))
seven a b c d e f g = simp append_assoc

-- the words that begin a file that is written
abbrev pub IsKind : ℕ → Type 0
IsKind kind = (kind ≡ 0x00010000) ⊎ (kind ≡ 0x4F54544F)

module _ (kind : ℕ) (ts : List Table) (rest : List ℕ) where
  pub parts : front kind ts ++ rest
      ≡ to_be_bytes w32 kind ++ (to_be_bytes w16 (length ts) ++ (to_be_bytes w16 (16 * 2 ^ selector (length ts)) ++ (to_be_bytes w16 (selector (length ts)) ++ (to_be_bytes w16 (16 * length ts - 16 * 2 ^ selector (length ts)) ++ (directory_bytes (12 + 16 * length ts) ts ++ rest)))))
  unfolding front header_bytes
  parts = seven (to_be_bytes w32 kind) (to_be_bytes w16 (length ts)) (to_be_bytes w16 (16 * 2 ^ selector (length ts))) (to_be_bytes w16 (selector (length ts))) (to_be_bytes w16 (16 * length ts - 16 * 2 ^ selector (length ts))) (directory_bytes (12 + 16 * length ts) ts) rest

  pub kind_back : kind < 2 ^ 32 → number (front kind ts ++ rest) 0 4 ≡ Some kind
  kind_back lt = number_at (front kind ts ++ rest) [] (to_be_bytes w32 kind) _ 0 4 kind parts refl refl (be-u32 kind lt)

  pub header_back : IsKind kind → header_offset (as_font (front kind ts ++ rest)) ≡ Some 0
  unfolding header_offset
  header_back is =
      let single : kind_at (front kind ts ++ rest) 0 ≡ Some Single = elim is [
        | inl e ↦ ap (option_and_then kind_of) (kind_back (omega arith) ∙ ap (λ (k : ℕ). Some k) e)
        | inr e ↦ ap (option_and_then kind_of) (kind_back (omega arith) ∙ ap (λ (k : ℕ). Some k) e)
      ] in
      ap (option_and_then (λ k. header_by_kind k (as_font (front kind ts ++ rest)))) single

  parts_two : front kind ts ++ rest ≡ header_bytes kind (length ts) ++ (directory_bytes (12 + 16 * length ts) ts ++ rest)
  unfolding front
  parts_two = append_assoc (header_bytes kind (length ts)) (directory_bytes (12 + 16 * length ts) ts) rest

  pub count_back : length ts < 16 → number (front kind ts ++ rest) 4 2 ≡ Some (length ts)
  count_back few = number_at (front kind ts ++ rest) (to_be_bytes w32 kind) (to_be_bytes w16 (length ts)) _ 4 2 (length ts) parts refl refl (be-u16 (length ts) (omega arith))

  pub records_at_back : length ts < 16 → AllByRecursion IsTable ts → records_at (front kind ts ++ rest) 0 ≡ Some (directory_bytes (12 + 16 * length ts) ts)
  unfolding records_at
  records_at_back few all =
      let file = front kind ts ++ rest in
      let n = length ts in
      ap (option_and_then (λ m. range file (0 + 12) (16 * m))) (count_back few)
      ∙ range-middle file (header_bytes kind n) (directory_bytes (12 + 16 * n) ts) rest (0 + 12) (16 * n) parts_two (sym (length-header kind n)) (sym (length-directory (12 + 16 * n) ts all))

  pub records_back_whole : IsKind kind → length ts < 16 → AllByRecursion IsTable ts → records (as_font (front kind ts ++ rest)) ≡ Some (directory_bytes (12 + 16 * length ts) ts)
  records_back_whole is few all = ap (option_and_then (λ at. records_at (front kind ts ++ rest) at)) (header_back is) ∙ records_at_back few all

  pub directory_back : IsKind kind → length ts < 16 → AllByRecursion IsTable ts → fits (12 + 16 * length ts) ts ≡ true → directory (as_font (front kind ts ++ rest)) ≡ Some (records_from (12 + 16 * length ts) ts)
  directory_back is few all fit =
      let D = directory_bytes (12 + 16 * length ts) ts in
      let count : length D / 16 ≡ length ts = omega (arith, length-directory (12 + 16 * length ts) ts all) in
      ap (option_map (λ bytes. directory_records (length bytes / 16) bytes)) (records_back_whole is few all)
      ∙ ap (λ (rs : List TableRecord). Some rs) (ap (λ (n : ℕ). directory_records n D) count ∙ records_back (12 + 16 * length ts) ts all fit)

-- each table of a file with some word in `head` is what was laid out
pub table_back_with : (kind : ℕ) (ts : List Table) (word : ℕ) (tag : List ℕ) → IsKind kind → length ts < 16 → AllByRecursion IsTable ts → fits (12 + 16 * length ts) ts ≡ true
    → table (as_font (front kind ts ++ body (map (adjusted word) ts))) tag ≡ find_table tag (map (adjusted word) ts)
table_back_with kind ts word tag is few all fit =
    let file = front kind ts ++ body (map (adjusted word) ts) in
    let D = directory_bytes (12 + 16 * length ts) ts in
    let count : length D / 16 ≡ length ts = omega (arith, length-directory (12 + 16 * length ts) ts all) in
    let found : directory_records (length D / 16) D ≡ records_from (12 + 16 * length ts) ts = ap (λ (n : ℕ). directory_records n D) count ∙ records_back (12 + 16 * length ts) ts all fit in
    let start : 12 + 16 * length ts ≡ length (front kind ts) = sym (length-front kind ts all) in
    let whole : file ≡ front kind ts ++ (body (map (adjusted word) ts) ++ []) = ap (λ (l : List ℕ). front kind ts ++ l) (sym (append-nil (body (map (adjusted word) ts)))) in
    ap (option_and_then (λ directory. table_in file directory tag)) (records_back_whole kind ts (body (map (adjusted word) ts)) is few all)
    ∙ ap (λ (rs : List TableRecord). option_and_then (λ e. range file e.offset e.length) (find_record tag rs)) (found ∙ ap (λ (n : ℕ). records_from n ts) start)
    ∙ tables_back (front kind ts) [] word tag ts file all whole

-- the word that a file has in `head`
abbrev pub word_of : ℕ → List Table → ℕ
word_of kind ts = adjustment (checksum (front kind ts ++ body ts))

-- each table of a file is the first that was laid out with its tag, `head` with the adjustment put in
pub table_back : (kind : ℕ) (ts : List Table) (tag : List ℕ) → IsKind kind → length ts < 16 → AllByRecursion IsTable ts → fits (start_of ts) ts ≡ true
    → table (as_font (file kind ts)) tag ≡ find_table tag (map (adjusted (word_of kind ts)) ts)
unfolding file
table_back kind ts tag is few all fit = table_back_with kind ts (word_of kind ts) tag is few all fit
