-- Names that were written are read back.
use Rattle.std.proofs.Common.{◌≡◌, ℕ, zero, suc, ◌+◌, ◌*◌, ◌<◌, ◌≤◌, Bool, true, false, cond, leb, List, [], ◌∷◌, ◌++◌, length, take, drop, Some, None, refl, sym, ap, ◌∙◌, arith}
use Rattle.std.specs.Prelude.{filter, flat_map}
use Rattle.std.specs.Option.{option_map}
use Rattle.std.specs.List.{AllByRecursion}
use Rattle.std.specs.Int.{w16, to_be_bytes}
use Rattle.std.proofs.lemmas.Bool.{le-leb, leb-true}
use Rattle.std.proofs.lemmas.List.{drop_at, length-append, length-take, length-drop}
use Rattle.subsetter_base.specs.Bytes.{IsBytes, be, range, number, from_offset}
use Rattle.subsetter_base.proofs.ByteLemmas.{range-middle, be-u16}
use Rattle.subsetter_sfnt.specs.declared.fields.name.NameRecord.{NameRecord}
use Rattle.subsetter.specs.Common.Name.Read.{name_records_in, name_table, name_bytes, is_kept_record}
use Rattle.subsetter_sfnt.specs.Fields.Name.{name_record_of, name_record_bytes}

-- ---- bytes, numbers and ranges

abbrev pub AllBytes : List ℕ → Type 0
AllBytes bytes = AllByRecursion (λ (b : ℕ). b < 256) bytes

pub all_bytes : (bytes : List ℕ) → IsBytes bytes → AllBytes bytes
all_bytes [] h = tt
all_bytes (b ∷ bytes) h = (h 0, all_bytes bytes (λ i. h (suc i)))

pub all_drop : (n : ℕ) (bytes : List ℕ) → AllBytes bytes → AllBytes (drop n bytes)
all_drop zero bytes h = h
all_drop (suc n) [] h = tt
all_drop (suc n) (b ∷ bytes) h = all_drop n bytes h.1

pub all_take : (n : ℕ) (bytes : List ℕ) → AllBytes bytes → AllBytes (take n bytes)
all_take zero bytes h = tt
all_take (suc n) [] h = tt
all_take (suc n) (b ∷ bytes) h = (h.0, all_take n bytes h.1)

pub be_two : (bytes : List ℕ) → AllBytes bytes → be (take 2 bytes) < 65536
be_two [] h = omega arith
be_two (a ∷ []) h = let x : a < 256 = h.0 in omega arith
be_two (a ∷ b ∷ bytes) h = let x : a < 256 = h.0 in let y : b < 256 = h.1.0 in omega arith

pub tail_at : (bytes pre post : List ℕ) (at : ℕ) → bytes ≡ pre ++ post → at ≡ length pre → from_offset bytes at ≡ Some post
tail_at bytes pre post at is a =
    let enough : leb at (length bytes) ≡ true = le-leb _ _ (omega (arith, ap length is, length-append pre post)) in
    ap (λ b. cond b (Some (drop at bytes)) None) enough ∙ ap Some (ap (drop at) is ∙ drop_at pre post at (sym a))

-- what is known of a range that is there
pub record There (bytes : List ℕ) (at size : ℕ) (x : List ℕ) : Type 0 where
  pub within : at + size ≤ length bytes
  pub is : x ≡ take size (drop at bytes)
  pub long : length x ≡ size

pub range_found : (bytes : List ℕ) (at size : ℕ) (x : List ℕ) → range bytes at size ≡ Some x → There bytes at size x
range_found bytes at size x h = by (leb (at + size) (length bytes)) refl h
  where
    by : (b : Bool) → leb (at + size) (length bytes) ≡ b → cond b (Some (take size (drop at bytes))) None ≡ Some x → There bytes at size x
    by true t k =
        let within : at + size ≤ length bytes = leb-true _ _ t in
        let is : x ≡ take size (drop at bytes) = cc in
        record { within = within; is = is; long = ap length is ∙ omega (arith, length-take size (drop at bytes), length-drop at bytes) }
    by false t k = absurd cc

-- ---- records

pub record FitsRecord (r : NameRecord) : Type 0 where
  pub platform : r.platform_id < 65536
  pub encoding : r.encoding_id < 65536
  pub language : r.language_id < 65536
  pub name : r.name_id < 65536
  pub size : r.length < 65536
  pub offset : r.string_offset < 65536

pub fit_records : (n : ℕ) (bytes : List ℕ) → AllBytes bytes → AllByRecursion FitsRecord (name_records_in n bytes)
fit_records zero bytes h = tt
fit_records (suc n) bytes h = (
  record { platform = be_two bytes h; encoding = be_two (drop 2 bytes) (all_drop 2 bytes h); language = be_two (drop 4 bytes) (all_drop 4 bytes h); name = be_two (drop 6 bytes) (all_drop 6 bytes h); size = be_two (drop 8 bytes) (all_drop 8 bytes h); offset = be_two (drop 10 bytes) (all_drop 10 bytes h) },
  fit_records n (drop 12 bytes) (all_drop 12 bytes h),
)

fit_kept : (rs : List NameRecord) → AllByRecursion FitsRecord rs → AllByRecursion FitsRecord (filter is_kept_record rs)
fit_kept [] h = tt
fit_kept (r ∷ rs) h = by (is_kept_record r) (fit_kept rs h.1)
  where
    by : (b : Bool) → AllByRecursion FitsRecord (filter is_kept_record rs) → AllByRecursion FitsRecord (cond b (r ∷ filter is_kept_record rs) (filter is_kept_record rs))
    by true k = (h.0, k)
    by false k = k

pub fits_kept : (rs : List NameRecord) → AllByRecursion FitsRecord rs → AllByRecursion FitsRecord (filter is_kept_record rs)
fits_kept rs h = fit_kept rs h

same_record : (p e l n s o : ℕ) (r : NameRecord) → p ≡ r.platform_id → e ≡ r.encoding_id → l ≡ r.language_id → n ≡ r.name_id → s ≡ r.length → o ≡ r.string_offset
    → record { platform_id = p; encoding_id = e; language_id = l; name_id = n; length = s; string_offset = o } ≡ r
same_record p e l n s o r a b c d f g = rw (a, b, c, d, f, g) refl

record_back : (r : NameRecord) (rest : List ℕ) → FitsRecord r → name_record_of (name_record_bytes r ++ rest) ≡ r
record_back r rest f =
    same_record _ _ _ _ _ _ r (be-u16 r.platform_id f.platform) (be-u16 r.encoding_id f.encoding) (be-u16 r.language_id f.language) (be-u16 r.name_id f.name) (be-u16 r.length f.size) (be-u16 r.string_offset f.offset)

pub records_back : (rs : List NameRecord) → AllByRecursion FitsRecord rs → name_records_in (length rs) (flat_map name_record_bytes rs) ≡ rs
records_back [] h = refl
records_back (r ∷ rs) h =
    let one = record_back r (flat_map name_record_bytes rs) h.0 in
    let more = records_back rs h.1 in
    cc

pub length-records : (rs : List NameRecord) → length (flat_map name_record_bytes rs) ≡ length rs * 12
length-records [] = refl
length-records (r ∷ rs) = omega (arith, length-records rs, length-append (name_record_bytes r) (flat_map name_record_bytes rs))

-- ---- a table

pub record IsBack (new : List ℕ) (records : List NameRecord) (storage : List ℕ) : Type 0 where
  pub table : name_table new ≡ Some (record { records = records; storage = storage })
  pub offset : number new 4 2 ≡ Some (6 + 12 * length records)

pub table_back : (records : List NameRecord) (storage : List ℕ) → AllByRecursion FitsRecord records → length records ≤ 5460 → IsBack (name_bytes records storage) records storage
unfolding name_bytes name_table
table_back records storage fit few =
    let n = length records in
    let zeros = to_be_bytes w16 0 in
    let count = to_be_bytes w16 n in
    let offset = to_be_bytes w16 (6 + 12 * n) in
    let body = flat_map name_record_bytes records in
    let new = zeros ++ count ++ offset ++ body ++ storage in
    let version : number new 0 2 ≡ Some 0 = ap (option_map be) (range-middle new [] zeros (count ++ offset ++ body ++ storage) 0 2 refl refl refl) in
    let count_is : number new 2 2 ≡ Some n = ap (option_map be) (range-middle new zeros count (offset ++ body ++ storage) 2 2 refl refl refl) ∙ ap Some (be-u16 n (omega arith)) in
    let offset_is : number new 4 2 ≡ Some (6 + 12 * n) = ap (option_map be) (range-middle new (zeros ++ count) offset (body ++ storage) 4 2 refl refl refl) ∙ ap Some (be-u16 (6 + 12 * n) (omega arith)) in
    let records_are : range new 6 (n * 12) ≡ Some body = range-middle new (zeros ++ count ++ offset) body storage 6 (n * 12) refl refl (sym (length-records records)) in
    let storage_is : from_offset new (6 + 12 * n) ≡ Some storage = tail_at new (zeros ++ count ++ offset ++ body) storage (6 + 12 * n) refl (omega (arith, length-records records)) in
    record {
      table = rw (version, count_is, offset_is, records_are, storage_is) (ap (λ (rs : List NameRecord). Some (record { records = rs; storage = storage })) (records_back records fit));
      offset = offset_is;
    }
