-- Where a subset of `name` is made there is no fault.
use Rattle.std.proofs.Common.{◌≡◌, ℕ, zero, suc, ◌+◌, ◌*◌, ◌<◌, ◌≤◌, Bool, true, false, cond, eqb, leb, drop, List, [], ◌∷◌, length, Option, Some, None, Ok, refl, sym, ap, subst, ◌∙◌, arith}
use Rattle.std.specs.Prelude.{map, filter, codes, Contains, slice_index_or}
use Rattle.std.specs.Option.{option_and_then, option_map, ok_or}
use Rattle.std.specs.List.{AllByRecursion, cons_option}
use Rattle.std.proofs.lemmas.Bool.{leb-true, eqb-true}
use Rattle.std.proofs.lemmas.List.{length-map}
use Rattle.subsetter_base.specs.Bytes.{IsBytes, range, number, ◌>>=◌, from_offset}
use Rattle.subsetter_base.specs.declared.error.Error.{Error}
use Rattle.subsetter_base.specs.declared.error.Error.TheVariants.{MalformedFont}
use Rattle.subsetter_base.proofs.Results.{bind_ok, named_ok}
use Rattle.subsetter_base.proofs.Options.{bind_some}
use Rattle.subsetter_base.proofs.ByteLemmas.{number-fits}
use Rattle.subsetter_sfnt.specs.declared.fields.name.NameRecord.{NameRecord}
use Rattle.subsetter.specs.Common.Name.Read.{Name, NameTable, name_records_in, name_parts, name_table, name_records, name_bytes, is_kept_record, is_kept_name, distinct, string_offset}
use Rattle.subsetter_sfnt.specs.Fields.Name.{string_of}
use Rattle.subsetter.specs.Common.Name.Plain.{subset_names, name_of_table, new_name, name_of}
use Rattle.subsetter.specs.Common.Name.Fault.{HasNameFault, kept_strings, name_without_version, name_header_cut, name_records_cut, name_storage_outside, name_string_outside, too_many_names, name_string_too_far}
use Rattle.subsetter.proofs.CommonLaws.NameLaws.Back.{range_found, all_bytes, fits_kept}
use Rattle.subsetter.proofs.CommonLaws.NameLaws.Kept.{kept_alike, subsetted, placed_as, fit_table, has_kept_names, read_by_version}
use Rattle.subsetter.proofs.CommonLaws.NameLaws.Fault.{names_of, records_are, readable, kept_strings_are, placed_length}

-- a table that was answered for
answered : (find : List ℕ → Option (List ℕ)) (bytes : List ℕ) (x : Option (List ℕ)) → find (codes "name") ≡ Some bytes → name_of find ≡ Ok x → (y : List ℕ) × (name_of_table bytes ≡ Ok y)
unfolding new_name
answered find bytes x is h =
    let a = bind_ok (name_of_table bytes) (λ y. Ok (Some y)) x (sym (ap new_name is) ∙ h) in
    (a.0, a.1)

versioned : (bytes y : List ℕ) → name_of_table bytes ≡ Ok y → (v : ℕ) × (number bytes 0 2 ≡ Some v)
unfolding name_of_table
versioned bytes y h =
    let a = bind_ok (ok_or (number bytes 0 2) MalformedFont) (λ version. cond (eqb version 0) (ok_or (name_parts bytes) MalformedFont >>= λ t. subset_names t >>= λ n. Ok (name_bytes n.records n.storage)) (Ok bytes)) y h in
    (a.0, named_ok (number bytes 0 2) MalformedFont a.0 a.1)

-- the parts of a table of version 0, which were subset
pub record Ran (bytes : List ℕ) : Type 0 where
  pub t : NameTable
  pub n : NameTable
  pub parts : name_parts bytes ≡ Some t
  pub table : name_table bytes ≡ Some t
  pub names : subset_names t ≡ Ok n

ran : (bytes y : List ℕ) → number bytes 0 2 ≡ Some 0 → name_of_table bytes ≡ Ok y → Ran bytes
unfolding name_of_table
ran bytes y v h =
    let k : (ok_or (name_parts bytes) MalformedFont >>= λ t. subset_names t >>= λ n. Ok (name_bytes n.records n.storage)) ≡ Ok y = sym (ap (λ (o : Option ℕ). ok_or o MalformedFont >>= λ version. cond (eqb version 0) (ok_or (name_parts bytes) MalformedFont >>= λ t. subset_names t >>= λ n. Ok (name_bytes n.records n.storage)) (Ok bytes)) v) ∙ h in
    let a = bind_ok (ok_or (name_parts bytes) MalformedFont) (λ t. subset_names t >>= λ n. Ok (name_bytes n.records n.storage)) y k in
    let b = bind_ok (subset_names a.0) (λ n. Ok (name_bytes n.records n.storage)) y a.2 in
    let parts = named_ok (name_parts bytes) MalformedFont a.0 a.1 in
    record { t = a.0; n = b.0; parts = parts; table = read_by_version bytes 0 a.0 v refl parts; names = b.1 }

-- records are read of version 0 alone
version_zero : (bytes : List ℕ) (names : List Name) → name_records bytes ≡ Some names → number bytes 0 2 ≡ Some 0
unfolding name_table
version_zero bytes names h = by (number bytes 0 2) refl h
  where
    second : (v : ℕ) → number bytes 0 2 ≡ Some v → (b : Bool) → eqb v 0 ≡ b → option_map names_of (cond b (name_parts bytes) None) ≡ Some names → number bytes 0 2 ≡ Some 0
    second v e true z k = e ∙ ap Some (eqb-true v 0 z)
    second v e false z k = absurd cc

    by : (o : Option ℕ) → number bytes 0 2 ≡ o → option_map names_of (option_and_then (λ (v : ℕ). cond (eqb v 0) (name_parts bytes) None) o) ≡ Some names → number bytes 0 2 ≡ Some 0
    by None e k = absurd cc
    by (Some v) e k = second v e (eqb v 0) refl k

-- what the parts of a table say of its bytes
pub record PartsThere (bytes : List ℕ) : Type 0 where
  pub count : ℕ
  pub offset : ℕ
  pub count_is : number bytes 2 2 ≡ Some count
  pub offset_is : number bytes 4 2 ≡ Some offset
  pub records : 6 + count * 12 ≤ length bytes
  pub storage : offset ≤ length bytes

storage_there : (bytes : List ℕ) (offset : ℕ) (x : List ℕ) → from_offset bytes offset ≡ Some x → offset ≤ length bytes
storage_there bytes offset x h = by (leb offset (length bytes)) refl h
  where
    by : (b : Bool) → leb offset (length bytes) ≡ b → cond b (Some (drop offset bytes)) None ≡ Some x → offset ≤ length bytes
    by true t k = leb-true _ _ t
    by false t k = absurd cc

parts_there : (bytes : List ℕ) (t : NameTable) → name_parts bytes ≡ Some t → PartsThere bytes
parts_there bytes t h =
    let a = bind_some (number bytes 2 2) (λ count. option_and_then (λ offset. option_and_then (λ records. option_and_then (λ storage. Some (record { records = name_records_in count records; storage = storage })) (from_offset bytes offset)) (range bytes 6 (count * 12))) (number bytes 4 2)) t h in
    let b = bind_some (number bytes 4 2) (λ offset. option_and_then (λ records. option_and_then (λ storage. Some (record { records = name_records_in a.0 records; storage = storage })) (from_offset bytes offset)) (range bytes 6 (a.0 * 12))) t a.2 in
    let c = bind_some (range bytes 6 (a.0 * 12)) (λ records. option_and_then (λ storage. Some (record { records = name_records_in a.0 records; storage = storage })) (from_offset bytes b.0)) t b.2 in
    let d = bind_some (from_offset bytes b.0) (λ storage. Some (record { records = name_records_in a.0 c.0; storage = storage })) t c.2 in
    record { count = a.0; offset = b.0; count_is = a.1; offset_is = b.1; records = (range_found bytes 6 (a.0 * 12) c.0 c.1).within; storage = storage_there bytes b.0 d.0 d.1 }

abbrev some_number : ℕ → Option ℕ
some_number n = Some n

same_number : (m n : ℕ) → some_number m ≡ some_number n → m ≡ n
same_number m n h = cc

none_missing : (ns : List Name) (strings : List (List ℕ)) (k : ℕ) (n : Name) → map (λ (x : Name). x.string) ns ≡ map Some strings → k < length ns → slice_index_or ns k n ≡ n → n.string ≡ None → ⊥
none_missing [] strings k n e lt is h = absurd (omega arith)
none_missing (m ∷ ns) [] k n e lt is h = absurd cc
none_missing (m ∷ ns) (s ∷ strings) zero n e lt is h = let there_is : m.string ≡ Some s = cc in let same : m.string ≡ n.string = ap (λ (x : Name). x.string) is in absurd cc
none_missing (m ∷ ns) (s ∷ strings) (suc k) n e lt is h = let later : map (λ (x : Name). x.string) ns ≡ map Some strings = cc in none_missing ns strings k n later (omega arith) is h

all_at : {X : Type 0} (P : X → Type 0) (xs : List X) (k : ℕ) (x : X) → AllByRecursion P xs → k < length xs → slice_index_or xs k x ≡ x → P x
all_at P [] k x all lt is = absurd (omega arith)
all_at P (y ∷ xs) zero x all lt is = subst P is all.0
all_at P (y ∷ xs) (suc k) x all lt is = all_at P xs k x all.1 (omega arith) is

readable_is : (storage : List ℕ) (rs : List NameRecord) (strings : List (List ℕ)) → map (string_of storage) rs ≡ map Some strings → readable storage rs ≡ strings
readable_is storage [] [] h = refl
readable_is storage [] (s ∷ strings) h = absurd cc
readable_is storage (r ∷ rs) [] h = absurd cc
readable_is storage (r ∷ rs) (s ∷ strings) h =
    let one : string_of storage r ≡ Some s = cc in
    let more : map (string_of storage) rs ≡ map Some strings = cc in
    ap (λ o. cons_option o (readable storage rs)) one ∙ ap (λ (l : List (List ℕ)). s ∷ l) (readable_is storage rs strings more)

same_names : (bytes : List ℕ) (names more : List Name) → name_records bytes ≡ Some names → name_records bytes ≡ Some more → names ≡ more
same_names bytes names more h k = cc

none_outside : (bytes y : List ℕ) (names : List Name) (n : Name) → IsBytes bytes → name_records bytes ≡ Some names → Contains (filter is_kept_name names) n → n.string ≡ None → name_of_table bytes ≡ Ok y → ⊥
none_outside bytes y names n all h c none k =
    let r = ran bytes y (version_zero bytes names h) k in
    let kept = has_kept_names bytes r.t r.n (all_bytes bytes all) r.parts r.table r.names in
    none_missing (filter is_kept_name names) kept.strings c.0 n (ap (λ (l : List Name). map (λ (x : Name). x.string) (filter is_kept_name l)) (same_names bytes names kept.names h kept.source_is) ∙ kept.readable) c.1 c.2 none

not_many : (bytes y : List ℕ) (names : List Name) → name_records bytes ≡ Some names → 5460 < length (filter is_kept_name names) → name_of_table bytes ≡ Ok y → ⊥
not_many bytes y names h many k =
    let r = ran bytes y (version_zero bytes names h) k in
    let s = subsetted r.t r.n r.names in
    let same = same_names bytes names (names_of r.t) h (records_are bytes r.t r.table) in
    let count : length (filter is_kept_name names) ≡ length (filter is_kept_record r.t.records) = ap (λ (l : List Name). length (filter is_kept_name l)) same ∙ ap length (kept_alike r.t.storage r.t.records) ∙ length-map (filter is_kept_record r.t.records) _ in
    omega (arith, count, s.few, placed_length r.t.storage [] (filter is_kept_record r.t.records) s.p s.placed_is)

not_far : (bytes y : List ℕ) (names : List Name) (s : List ℕ) → IsBytes bytes → name_records bytes ≡ Some names → Contains (kept_strings names) s → 65535 < string_offset (distinct (kept_strings names)) s → name_of_table bytes ≡ Ok y → ⊥
not_far bytes y names s all h c lt k =
    let r = ran bytes y (version_zero bytes names h) k in
    let sub = subsetted r.t r.n r.names in
    let kept = filter is_kept_record r.t.records in
    let by = placed_as r.t.storage [] kept sub.p (fits_kept r.t.records (fit_table bytes r.t (all_bytes bytes all) r.parts)) sub.placed_is in
    let same : kept_strings names ≡ by.strings = ap kept_strings (same_names bytes names (names_of r.t) h (records_are bytes r.t r.table)) ∙ kept_strings_are r.t ∙ readable_is r.t.storage kept by.strings by.read in
    let among_them : Contains by.strings s = subst (λ (l : List (List ℕ)). Contains l s) same c in
    let near : string_offset sub.p.strings s < 65536 = all_at (λ (x : List ℕ). string_offset sub.p.strings x < 65536) by.strings among_them.0 s by.near among_them.1 among_them.2 in
    let place : string_offset (distinct (kept_strings names)) s ≡ string_offset sub.p.strings s = ap (λ (l : List (List ℕ)). string_offset (distinct l) s) same ∙ ap (λ (l : List (List ℕ)). string_offset l s) (sym by.all) in
    omega (arith, lt, near, place)

pub name_clean : (find : List ℕ → Option (List ℕ)) (x : Option (List ℕ)) (e : Error) → ((bytes : List ℕ) → find (codes "name") ≡ Some bytes → IsBytes bytes) → name_of find ≡ Ok x → HasNameFault find e → ⊥
name_clean find x e all h (name_without_version bytes is short) =
    let a = answered find bytes x is h in
    let v = versioned bytes a.0 a.1 in
    omega (arith, short, number-fits bytes 0 2 v.0 v.1)
name_clean find x e all h (name_header_cut bytes is v short) =
    let a = answered find bytes x is h in
    let r = ran bytes a.0 v a.1 in
    let p = parts_there bytes r.t r.parts in
    omega (arith, short, number-fits bytes 4 2 p.offset p.offset_is)
name_clean find x e all h (name_records_cut bytes count is v c short) =
    let a = answered find bytes x is h in
    let r = ran bytes a.0 v a.1 in
    let p = parts_there bytes r.t r.parts in
    omega (arith, short, p.records, same_number count p.count (sym c ∙ p.count_is))
name_clean find x e all h (name_storage_outside bytes offset is v o short) =
    let a = answered find bytes x is h in
    let r = ran bytes a.0 v a.1 in
    let p = parts_there bytes r.t r.parts in
    omega (arith, short, p.storage, same_number offset p.offset (sym o ∙ p.offset_is))
name_clean find x e all h (name_string_outside bytes names n is k c none) =
    let a = answered find bytes x is h in none_outside bytes a.0 names n (all bytes is) k c none a.1
name_clean find x e all h (too_many_names bytes names is k many) =
    let a = answered find bytes x is h in not_many bytes a.0 names k many a.1
name_clean find x e all h (name_string_too_far bytes names s is k c lt) =
    let a = answered find bytes x is h in not_far bytes a.0 names s (all bytes is) k c lt a.1
