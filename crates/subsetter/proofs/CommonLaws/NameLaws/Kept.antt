-- A subset of `name` has the kept names.
use Rattle.std.proofs.Common.{◌≡◌, ℕ, suc, ◌+◌, ◌*◌, ◌<◌, ◌≤◌, Bool, true, false, cond, leb, ltb, eqb, ◌||◌, List, [], ◌∷◌, ◌++◌, length, drop, Option, Some, None, Ok, Err, refl, sym, ap, subst, ◌∙◌, append_assoc, arith}
use Rattle.std.specs.Prelude.{map, filter, codes}
use Rattle.std.specs.Option.{option_and_then, option_map, ok_or}
use Rattle.std.specs.List.{AllByRecursion}
use Rattle.std.specs.Str.{bytes_eq}
use Rattle.std.proofs.lemmas.Bool.{leb-true, ltb-true, false≢true}
use Rattle.std.proofs.lemmas.List.{append-nil, length-append}
use Rattle.subsetter_base.specs.Bytes.{IsBytes, range, number, ◌>>=◌, from_offset}
use Rattle.subsetter_base.specs.declared.error.Error.TheVariants.{MalformedFont, SubsetError}
use Rattle.subsetter_base.proofs.Results.{bind_ok, named_ok, done_is}
use Rattle.subsetter_base.proofs.Options.{bind_some}
use Rattle.subsetter_base.proofs.Lists.{bytes_eq_is, bytes_eq_self}
use Rattle.subsetter_base.proofs.ByteLemmas.{range-middle}
use Rattle.subsetter_sfnt.specs.declared.fields.name.NameRecord.{NameRecord}
use Rattle.subsetter.specs.Common.Name.Read.{Name, NameTable, name_records_in, name_parts, name_table, name_records, name_storage, name_of_record, name_bytes, is_kept_record, is_kept_name, among, with_string, with_strings, string_offset, joined, HasKeptNames, KeepsNames, rewritten, copied}
use Rattle.subsetter_sfnt.specs.Fields.Name.{string_of}
use Rattle.subsetter.specs.Common.Name.Plain.{Placed, placed, placed_string, with_name, few_names, subset_names, name_of_table, new_name, name_of}
use Rattle.subsetter.proofs.CommonLaws.NameLaws.Written.{among-append, place_before, place_after, place_new}
use Rattle.subsetter.proofs.CommonLaws.NameLaws.Back.{AllBytes, all_bytes, all_drop, all_take, range_found, FitsRecord, fit_records, fits_kept, table_back}

-- ---- steps that answered

-- ---- strings that were placed

-- the strings after one more are those before it, it, and more
pub more_strings : (ts ss : List (List ℕ)) → (more : List (List ℕ)) × (with_strings ts ss ≡ ts ++ more)
more_strings ts [] = ([], sym (append-nil ts))
more_strings ts (s ∷ ss) = by (among ts s) (more_strings ts ss) (more_strings (ts ++ s ∷ []) ss)
  where
    by : (b : Bool) → (more : List (List ℕ)) × (with_strings ts ss ≡ ts ++ more) → (more : List (List ℕ)) × (with_strings (ts ++ s ∷ []) ss ≡ (ts ++ s ∷ []) ++ more) → (more : List (List ℕ)) × (with_strings (cond b ts (ts ++ s ∷ [])) ss ≡ ts ++ more)
    by true same longer = same
    by false same longer = (s ∷ longer.0, longer.1 ∙ append_assoc ts (s ∷ []) longer.0)

-- after a string was put among others it is there, at the place that was given to it
pub there_now : (ts : List (List ℕ)) (s : List ℕ) → (among (with_string ts s) s ≡ true) × (string_offset (with_string ts s) s ≡ string_offset ts s)
there_now ts s = by (among ts s) refl
  where
    by : (b : Bool) → among ts s ≡ b → (among (cond b ts (ts ++ s ∷ [])) s ≡ true) × (string_offset (cond b ts (ts ++ s ∷ [])) s ≡ string_offset ts s)
    by true t = (t, refl)
    by false t =
        let self = bytes_eq_self s in (
          among-append ts (s ∷ []) s ∙ ap (λ b. b || (bytes_eq s s || false)) t ∙ ap (λ b. b || false) self,
          place_after ts (s ∷ []) s t ∙ ap (λ b. length (joined ts) + cond b 0 (length s + 0)) self ∙ omega (arith, place_new ts s t),
        )

stored_after : (ts more : List (List ℕ)) (s pre bytes : List ℕ) (at : ℕ) → among ts s ≡ true → bytes ≡ pre ++ joined (ts ++ more) → at ≡ length pre + string_offset ts s → range bytes at (length s) ≡ Some s
stored_after [] more s pre bytes at h is a = absurd (false≢true h)
stored_after (t ∷ ts) more s pre bytes at h is a =
    by (bytes_eq s t) refl h a (λ k b. stored_after ts more s (pre ++ t) bytes at k (is ∙ sym (append_assoc pre t (joined (ts ++ more)))) b)
  where
    by : (b : Bool) → bytes_eq s t ≡ b → (b || among ts s) ≡ true → at ≡ length pre + cond b 0 (length t + string_offset ts s) → (among ts s ≡ true → at ≡ length (pre ++ t) + string_offset ts s → range bytes at (length s) ≡ Some s) → range bytes at (length s) ≡ Some s
    by true e k p later =
        let same : s ≡ t = bytes_eq_is s t e in
        range-middle bytes pre s (joined (ts ++ more)) at (length s) (is ∙ ap (λ (x : List ℕ). pre ++ (x ++ joined (ts ++ more))) (sym same)) (omega arith) refl
    by false e k p later = later k (omega (arith, length-append pre t))

-- what a string's place among the strings before it says of all strings
pub record Stored (ts ss : List (List ℕ)) (s : List ℕ) : Type 0 where
  pub bytes : range (joined (with_strings (with_string ts s) ss)) (string_offset ts s) (length s) ≡ Some s
  pub offset : string_offset (with_strings (with_string ts s) ss) s ≡ string_offset ts s

pub stored : (ts ss : List (List ℕ)) (s : List ℕ) → Stored ts ss s
stored ts ss s =
    let m = more_strings (with_string ts s) ss in
    let n = there_now ts s in
    record {
      bytes = stored_after (with_string ts s) m.0 s [] (joined (with_strings (with_string ts s) ss)) (string_offset ts s) n.0 (ap joined m.1) (omega (arith, n.1));
      offset = ap (λ l. string_offset l s) m.1 ∙ place_before (with_string ts s) m.0 s n.0 ∙ n.1;
    }

-- ---- records that were placed

pub record PlacedAs (storage : List ℕ) (seen : List (List ℕ)) (rs : List NameRecord) (p : Placed) : Type 0 where
  pub strings : List (List ℕ)
  pub read : map (string_of storage) rs ≡ map Some strings
  pub all : p.strings ≡ with_strings seen strings
  pub same : map (name_of_record (joined p.strings)) p.names ≡ map (name_of_record storage) rs
  pub count : length p.names ≡ length strings
  pub fit : AllByRecursion FitsRecord p.names
  pub near : AllByRecursion (λ (s : List ℕ). string_offset p.strings s < 65536) strings

near_enough : (ts : List (List ℕ)) (s : List ℕ) (at : ℕ) → placed_string ts s ≡ Ok at → (string_offset ts s < 65536) × (string_offset ts s ≡ at)
near_enough ts s at h = by (ltb (string_offset ts s) 65536) refl h
  where
    by : (b : Bool) → ltb (string_offset ts s) 65536 ≡ b → cond b (Ok (string_offset ts s)) (Err SubsetError) ≡ Ok at → (string_offset ts s < 65536) × (string_offset ts s ≡ at)
    by true t k = (ltb-true _ _ t, done_is (string_offset ts s) at k)
    by false t k = absurd cc

same_name : (storage bytes : List ℕ) (r : NameRecord) (at : ℕ) → range bytes at r.length ≡ string_of storage r → name_of_record bytes (record r { string_offset = at }) ≡ name_of_record storage r
same_name storage bytes r at h = ap (λ (s : Option (List ℕ)). record { platform = r.platform_id; encoding = r.encoding_id; language = r.language_id; id = r.name_id; string = s }) h

one_placed : (storage : List ℕ) (seen : List (List ℕ)) (r : NameRecord) (rs : List NameRecord) (s : List ℕ) (at : ℕ) (q : Placed) → FitsRecord r → string_of storage r ≡ Some s → placed_string seen s ≡ Ok at → PlacedAs storage (with_string seen s) rs q → PlacedAs storage seen (r ∷ rs) (with_name r at q)
one_placed storage seen r rs s at q fit h k later =
    let near = near_enough seen s at k in
    let size : length s ≡ r.length = (range_found storage r.string_offset r.length s h).long in
    let st = stored seen later.strings s in
    let where_is : range (joined q.strings) at r.length ≡ Some s = ap (λ (l : List (List ℕ)). range (joined l) at r.length) later.all ∙ ap (λ (n : ℕ). range (joined (with_strings (with_string seen s) later.strings)) n r.length) (sym near.1) ∙ ap (range (joined (with_strings (with_string seen s) later.strings)) (string_offset seen s)) (sym size) ∙ st.bytes in
    let place : string_offset q.strings s ≡ string_offset seen s = ap (λ (l : List (List ℕ)). string_offset l s) later.all ∙ st.offset in
    record {
      strings = s ∷ later.strings;
      read = ap (λ (o : Option (List ℕ)). o ∷ map (string_of storage) rs) h ∙ ap (λ (l : List (Option (List ℕ))). Some s ∷ l) later.read;
      all = later.all;
      same = ap (λ (n : Name). n ∷ map (name_of_record (joined q.strings)) q.names) (same_name storage (joined q.strings) r at (where_is ∙ sym h)) ∙ ap (λ (l : List Name). name_of_record storage r ∷ l) later.same;
      count = ap suc later.count;
      fit = (record { platform = fit.platform; encoding = fit.encoding; language = fit.language; name = fit.name; size = fit.size; offset = omega arith }, later.fit);
      near = (omega (arith, place, near.0), later.near);
    }

pub placed_as : (storage : List ℕ) (seen : List (List ℕ)) (rs : List NameRecord) (p : Placed) → AllByRecursion FitsRecord rs → placed storage seen rs ≡ Ok p → PlacedAs storage seen rs p
placed_as storage seen [] p fit h =
    subst (λ (q : Placed). PlacedAs storage seen [] q) (done_is (record { names = []; strings = seen }) p h) (record { strings = []; read = refl; all = refl; same = refl; count = refl; fit = tt; near = tt })
placed_as storage seen (r ∷ rs) p fit h =
    let a = bind_ok (ok_or (string_of storage r) SubsetError) (λ s. placed_string seen s >>= λ at. placed storage (with_string seen s) rs >>= λ q. Ok (with_name r at q)) p h in
    let b = bind_ok (placed_string seen a.0) (λ at. placed storage (with_string seen a.0) rs >>= λ q. Ok (with_name r at q)) p a.2 in
    let c = bind_ok (placed storage (with_string seen a.0) rs) (λ q. Ok (with_name r b.0 q)) p b.2 in
    subst (λ (q : Placed). PlacedAs storage seen (r ∷ rs) q) (done_is (with_name r b.0 c.0) p c.2)
    (one_placed storage seen r rs a.0 b.0 c.0 fit.0 (named_ok (string_of storage r) SubsetError a.0 a.1) b.1 (placed_as storage (with_string seen a.0) rs c.0 fit.1 c.1))

-- ---- the whole table

pub kept_alike : (storage : List ℕ) (rs : List NameRecord) → filter is_kept_name (map (name_of_record storage) rs) ≡ map (name_of_record storage) (filter is_kept_record rs)
kept_alike storage [] = refl
kept_alike storage (r ∷ rs) = by (is_kept_record r) (kept_alike storage rs)
  where
    by : (b : Bool) → filter is_kept_name (map (name_of_record storage) rs) ≡ map (name_of_record storage) (filter is_kept_record rs)
        → cond b (name_of_record storage r ∷ filter is_kept_name (map (name_of_record storage) rs)) (filter is_kept_name (map (name_of_record storage) rs)) ≡ map (name_of_record storage) (cond b (r ∷ filter is_kept_record rs) (filter is_kept_record rs))
    by true e = ap (λ (l : List Name). name_of_record storage r ∷ l) e
    by false e = e

strings_of : (storage : List ℕ) (rs : List NameRecord) → map (λ (n : Name). n.string) (map (name_of_record storage) rs) ≡ map (string_of storage) rs
strings_of storage [] = refl
strings_of storage (r ∷ rs) = ap (λ (l : List (Option (List ℕ))). string_of storage r ∷ l) (strings_of storage rs)

-- what a subset's parts say
pub record Subsetted (t n : NameTable) : Type 0 where
  pub p : Placed
  pub placed_is : placed t.storage [] (filter is_kept_record t.records) ≡ Ok p
  pub few : length p.names ≤ 5460
  pub records : n.records ≡ p.names
  pub storage : n.storage ≡ joined p.strings

pub subsetted : (t n : NameTable) → subset_names t ≡ Ok n → Subsetted t n
unfolding subset_names
subsetted t n h =
    let a = bind_ok (placed t.storage [] (filter is_kept_record t.records)) few_names n h in
    by a.0 a.1 (leb (length a.0.names) 5460) refl a.2
  where
    by : (p : Placed) → placed t.storage [] (filter is_kept_record t.records) ≡ Ok p → (b : Bool) → leb (length p.names) 5460 ≡ b → cond b (Ok (record { records = p.names; storage = joined p.strings })) (Err SubsetError) ≡ Ok n → Subsetted t n
    by p is true e k =
        let same = done_is (record { records = p.names; storage = joined p.strings }) n k in
        record { p = p; placed_is = is; few = leb-true _ _ e; records = ap (λ (x : NameTable). x.records) (sym same); storage = ap (λ (x : NameTable). x.storage) (sym same) }
    by p is false e k = absurd cc

-- the parts of a table are those of its bytes
pub fit_table : (source : List ℕ) (t : NameTable) → AllBytes source → name_parts source ≡ Some t → AllByRecursion FitsRecord t.records
fit_table source t all h =
    let a = bind_some (number source 2 2) (λ count. option_and_then (λ offset. option_and_then (λ records. option_and_then (λ storage. Some (record { records = name_records_in count records; storage = storage })) (from_offset source offset)) (range source 6 (count * 12))) (number source 4 2)) t h in
    let b = bind_some (number source 4 2) (λ offset. option_and_then (λ records. option_and_then (λ storage. Some (record { records = name_records_in a.0 records; storage = storage })) (from_offset source offset)) (range source 6 (a.0 * 12))) t a.2 in
    let c = bind_some (range source 6 (a.0 * 12)) (λ records. option_and_then (λ storage. Some (record { records = name_records_in a.0 records; storage = storage })) (from_offset source b.0)) t b.2 in
    let d = bind_some (from_offset source b.0) (λ storage. Some (record { records = name_records_in a.0 c.0; storage = storage })) t c.2 in
    let is : name_records_in a.0 c.0 ≡ t.records = cc in
    let bytes : AllBytes c.0 = subst AllBytes (sym (range_found source 6 (a.0 * 12) c.0 c.1).is) (all_take (a.0 * 12) (drop 6 source) (all_drop 6 source all)) in
    subst (λ (l : List NameRecord). AllByRecursion FitsRecord l) is (fit_records a.0 c.0 bytes)

pub has_kept_names : (source : List ℕ) (t n : NameTable) → AllBytes source → name_parts source ≡ Some t → name_table source ≡ Some t → subset_names t ≡ Ok n → HasKeptNames source (name_bytes n.records n.storage)
has_kept_names source t n all h read k =
    let s = subsetted t n k in
    let kept = filter is_kept_record t.records in
    let done_as = placed_as t.storage [] kept s.p (fits_kept t.records (fit_table source t all h)) s.placed_is in
    let back = table_back s.p.names (joined s.p.strings) done_as.fit s.few in
    let names = map (name_of_record t.storage) t.records in
    let alike = kept_alike t.storage t.records in
    let new_is_bytes : name_bytes n.records n.storage ≡ name_bytes s.p.names (joined s.p.strings) = ap (λ (r : List NameRecord). name_bytes r n.storage) s.records ∙ ap (name_bytes s.p.names) s.storage in
    record {
      names = names;
      strings = done_as.strings;
      source_is = ap (option_map (λ (x : NameTable). map (name_of_record x.storage) x.records)) read;
      readable = ap (map (λ (x : Name). x.string)) alike ∙ strings_of t.storage kept ∙ done_as.read;
      new_is = ap name_records new_is_bytes ∙ ap (option_map (λ (x : NameTable). map (name_of_record x.storage) x.records)) back.table ∙ ap Some (done_as.same ∙ sym alike);
      stored = ap name_storage new_is_bytes ∙ ap (option_map (λ (x : NameTable). x.storage)) back.table ∙ ap (λ (l : List (List ℕ)). Some (joined l)) done_as.all;
      offset = ap (λ (l : List ℕ). number l 4 2) new_is_bytes ∙ back.offset ∙ ap (λ (m : ℕ). Some (6 + 12 * m)) done_as.count;
    }

pub read_by_version : (source : List ℕ) (version : ℕ) (t : NameTable) → number source 0 2 ≡ Some version → eqb version 0 ≡ true → name_parts source ≡ Some t → name_table source ≡ Some t
unfolding name_table
read_by_version source version t v e h = ap (option_and_then (λ (x : ℕ). cond (eqb x 0) (name_parts source) None)) v ∙ ap (λ b. cond b (name_parts source) None) e ∙ h

pub keeps_table : (source new : List ℕ) → IsBytes source → name_of_table source ≡ Ok new → KeepsNames source new
unfolding name_of_table
keeps_table source new bytes h =
    let a = bind_ok (ok_or (number source 0 2) MalformedFont) (λ version. cond (eqb version 0) (ok_or (name_parts source) MalformedFont >>= λ t. subset_names t >>= λ n. Ok (name_bytes n.records n.storage)) (Ok source)) new h in
    by (eqb a.0 0) a.0 (named_ok (number source 0 2) MalformedFont a.0 a.1) refl a.2
  where
    by : (b : Bool) (version : ℕ) → number source 0 2 ≡ Some version → eqb version 0 ≡ b → cond b (ok_or (name_parts source) MalformedFont >>= λ t. subset_names t >>= λ n. Ok (name_bytes n.records n.storage)) (Ok source) ≡ Ok new → KeepsNames source new
    by true version v e k =
        let c = bind_ok (ok_or (name_parts source) MalformedFont) (λ t. subset_names t >>= λ n. Ok (name_bytes n.records n.storage)) new k in
        let d = bind_ok (subset_names c.0) (λ n. Ok (name_bytes n.records n.storage)) new c.2 in
        let parts = named_ok (name_parts source) MalformedFont c.0 c.1 in
        subst (λ (l : List ℕ). KeepsNames source l) (done_is (name_bytes d.0.records d.0.storage) new d.2) (rewritten (has_kept_names source c.0 d.0 (all_bytes source bytes) parts (read_by_version source version c.0 v e parts) d.1))
    by false version v e k = copied version v (λ z. false≢true (sym e ∙ ap (λ n. eqb n 0) z)) (sym (done_is source new k))

-- a font without the table gets none
pub name_absent : (find : List ℕ → Option (List ℕ)) → find (codes "name") ≡ None → name_of find ≡ Ok None
unfolding new_name
name_absent find h = ap new_name h

pub name_kept : (find : List ℕ → Option (List ℕ)) (source : List ℕ) (new : Option (List ℕ)) → find (codes "name") ≡ Some source → IsBytes source → name_of find ≡ Ok new → (bytes : List ℕ) × (new ≡ Some bytes) × KeepsNames source bytes
unfolding new_name
name_kept find source new is bytes h =
    let a = bind_ok (name_of_table source) (λ x. Ok (Some x)) new (sym (ap new_name is) ∙ h) in
    (a.0, sym (done_is (Some a.0) new a.2), keeps_table source a.0 bytes a.1)
