-- Where a subset of `name` is refused there is a fault of that name, and where it is made there is none.
use Rattle.std.proofs.Common.{◌≡◌, ℕ, zero, suc, ◌*◌, ◌<◌, ◌≤◌, Bool, true, false, cond, leb, ltb, eqb, List, [], ◌∷◌, length, Option, Some, None, Result, Ok, Err, refl, sym, ap, subst, ◌∙◌, ◌⊎◌, inl, inr, arith}
use Rattle.std.specs.Prelude.{map, drop, filter, filter_map, slice_index_or, codes, Contains}
use Rattle.std.specs.Option.{option_and_then, option_map, ok_or}
use Rattle.std.specs.List.{cons_option}
use Rattle.std.proofs.lemmas.Bool.{leb-false, ltb-false, eqb-true}
use Rattle.std.proofs.lemmas.List.{length-map}
use Rattle.subsetter_base.specs.Bytes.{range, number, ◌>>=◌, from_offset}
use Rattle.subsetter_base.specs.declared.error.Error.{Error}
use Rattle.subsetter_base.specs.declared.error.Error.TheVariants.{MalformedFont, SubsetError}
use Rattle.subsetter_base.proofs.Results.{bind_ok, named_ok, done_is, failed_is, bind_err, named_err}
use Rattle.subsetter_base.proofs.ByteLemmas.{number-short, range-short}
use Rattle.subsetter_sfnt.specs.declared.fields.name.NameRecord.{NameRecord}
use Rattle.subsetter.specs.Common.Name.Read.{Name, NameTable, name_records_in, name_parts, name_table, name_records, name_of_record, name_bytes, is_kept_record, is_kept_name, with_string, with_strings, distinct, string_offset, joined}
use Rattle.subsetter_sfnt.specs.Fields.Name.{string_of}
use Rattle.subsetter.specs.Common.Name.Plain.{Placed, placed, placed_string, with_name, few_names, subset_names, name_of_table, new_name, name_of}
use Rattle.subsetter.specs.Common.Name.Fault.{HasNameFault, kept_strings, name_without_version, name_header_cut, name_records_cut, name_storage_outside, name_string_outside, too_many_names, name_string_too_far}
use Rattle.subsetter.proofs.CommonLaws.NameLaws.Kept.{stored, kept_alike, read_by_version}

-- ---- parts that aren't there

cut_parts : (find : List ℕ → Option (List ℕ)) (bytes : List ℕ) → find (codes "name") ≡ Some bytes → number bytes 0 2 ≡ Some 0 → name_parts bytes ≡ None → HasNameFault find MalformedFont
cut_parts find bytes is version h = first (number bytes 2 2) (number bytes 4 2) refl refl h
  where
    last : (count offset : ℕ) (records : List ℕ) (o : Option (List ℕ)) → from_offset bytes offset ≡ o → number bytes 4 2 ≡ Some offset → option_and_then {U = NameTable} (λ storage. Some (record { records = name_records_in count records; storage = storage })) o ≡ None → HasNameFault find MalformedFont
    last count offset records (Some x) e at k = absurd cc
    last count offset records None e at k = name_storage_outside bytes offset is version at (by (leb offset (length bytes)) refl e)
      where
        by : (b : Bool) → leb offset (length bytes) ≡ b → cond b (Some (drop offset bytes)) None ≡ None → length bytes < offset
        by true t j = absurd cc
        by false t j = leb-false _ _ t

    third : (count offset : ℕ) (o : Option (List ℕ)) → range bytes 6 (count * 12) ≡ o → number bytes 2 2 ≡ Some count → number bytes 4 2 ≡ Some offset → option_and_then {U = NameTable} (λ records. option_and_then {U = NameTable} (λ storage. Some (record { records = name_records_in count records; storage = storage })) (from_offset bytes offset)) o ≡ None → HasNameFault find MalformedFont
    third count offset None e c at k = name_records_cut bytes count is version c (range-short bytes 6 (count * 12) e)
    third count offset (Some x) e c at k = last count offset x (from_offset bytes offset) refl at k

    first : (o p : Option ℕ) → number bytes 2 2 ≡ o → number bytes 4 2 ≡ p → option_and_then {U = NameTable} (λ count. option_and_then {U = NameTable} (λ offset. option_and_then {U = NameTable} (λ records. option_and_then {U = NameTable} (λ storage. Some (record { records = name_records_in count records; storage = storage })) (from_offset bytes offset)) (range bytes 6 (count * 12))) p) o ≡ None → HasNameFault find MalformedFont
    first None p e f k = name_header_cut bytes is version (omega (arith, number-short bytes 2 2 e))
    first (Some count) None e f k = name_header_cut bytes is version (omega (arith, number-short bytes 4 2 f))
    first (Some count) (Some offset) e f k = third count offset (range bytes 6 (count * 12)) refl e f k

-- ---- strings that aren't there, or too far

abbrev pub readable : List ℕ → List NameRecord → List (List ℕ)
readable storage rs = filter_map (string_of storage) rs

pub data Misplaced (storage : List ℕ) (seen : List (List ℕ)) (rs : List NameRecord) : Type 0 where
  outside : (r : NameRecord) → Contains rs r → string_of storage r ≡ None → Misplaced storage seen rs
  far : (s : List ℕ) → Contains (readable storage rs) s → 65535 < string_offset (with_strings seen (readable storage rs)) s → Misplaced storage seen rs

later_one : {X : Type 0} (xs : List X) (y x : X) → Contains xs x → Contains (y ∷ xs) x
later_one xs y x h = (suc h.0, omega (arith, h.1), h.2)

front_string : (storage : List ℕ) (r : NameRecord) (rs : List NameRecord) (s : List ℕ) → string_of storage r ≡ Some s → readable storage (r ∷ rs) ≡ s ∷ readable storage rs
front_string storage r rs s h = ap (λ o. cons_option o (readable storage rs)) h

lifted : (storage : List ℕ) (seen : List (List ℕ)) (r : NameRecord) (rs : List NameRecord) (s : List ℕ) → string_of storage r ≡ Some s → Misplaced storage (with_string seen s) rs → Misplaced storage seen (r ∷ rs)
lifted storage seen r rs s h (outside q c n) = outside q (later_one rs r q c) n
lifted storage seen r rs s h (far q c lt) =
    far q (subst (λ (l : List (List ℕ)). Contains l q) (sym (front_string storage r rs s h)) (later_one (readable storage rs) s q c))
    (subst (λ (l : List (List ℕ)). 65535 < string_offset (with_strings seen l) q) (sym (front_string storage r rs s h)) lt)

not_placed : (ts : List (List ℕ)) (s : List ℕ) (e : Error) → placed_string ts s ≡ Err e → (SubsetError ≡ e) × (65535 < string_offset ts s)
not_placed ts s e h = by (ltb (string_offset ts s) 65536) refl h
  where
    by : (b : Bool) → ltb (string_offset ts s) 65536 ≡ b → cond b (Ok (string_offset ts s)) (Err SubsetError) ≡ Err e → (SubsetError ≡ e) × (65535 < string_offset ts s)
    by true t k = absurd cc
    by false t k = (failed_is {A = ℕ} SubsetError e k, let far_off : 65536 ≤ string_offset ts s = ltb-false _ _ t in omega arith)

misplaced : (storage : List ℕ) (seen : List (List ℕ)) (rs : List NameRecord) (e : Error) → placed storage seen rs ≡ Err e → (SubsetError ≡ e) × Misplaced storage seen rs
misplaced storage seen [] e h = absurd cc
misplaced storage seen (r ∷ rs) e h = by (string_of storage r) refl h (λ s k. misplaced storage (with_string seen s) rs e k)
  where
    third : (s : List ℕ) (at : ℕ) → string_of storage r ≡ Some s → ((k : placed storage (with_string seen s) rs ≡ Err e) → (SubsetError ≡ e) × Misplaced storage (with_string seen s) rs) → (placed storage (with_string seen s) rs ≡ Err e) ⊎ ((p : Placed) × (placed storage (with_string seen s) rs ≡ Ok p) × (Ok (with_name r at p) ≡ Err e)) → (SubsetError ≡ e) × Misplaced storage seen (r ∷ rs)
    third s at o later (inl k) = let m = later k in (m.0, lifted storage seen r rs s o m.1)
    third s at o later (inr k) = absurd cc

    second : (s : List ℕ) → string_of storage r ≡ Some s → ((k : placed storage (with_string seen s) rs ≡ Err e) → (SubsetError ≡ e) × Misplaced storage (with_string seen s) rs)
        → (placed_string seen s ≡ Err e) ⊎ ((at : ℕ) × (placed_string seen s ≡ Ok at) × ((placed storage (with_string seen s) rs >>= λ p. Ok (with_name r at p)) ≡ Err e)) → (SubsetError ≡ e) × Misplaced storage seen (r ∷ rs)
    second s o later (inl k) =
        let n = not_placed seen s e k in
        let front = front_string storage r rs s o in
        (n.0, far s (subst (λ (l : List (List ℕ)). Contains l s) (sym front) (0, omega arith, refl)) (subst (λ (l : List (List ℕ)). 65535 < string_offset (with_strings seen l) s) (sym front) (omega (arith, n.1, (stored seen (readable storage rs) s).offset))))
    second s o later (inr k) = third s k.0 o later (bind_err (placed storage (with_string seen s) rs) (λ p. Ok (with_name r k.0 p)) e k.2)

    by : (o : Option (List ℕ)) → string_of storage r ≡ o → (ok_or o SubsetError >>= λ s. placed_string seen s >>= λ at. placed storage (with_string seen s) rs >>= λ p. Ok (with_name r at p)) ≡ Err e
        → ((s : List ℕ) → placed storage (with_string seen s) rs ≡ Err e → (SubsetError ≡ e) × Misplaced storage (with_string seen s) rs) → (SubsetError ≡ e) × Misplaced storage seen (r ∷ rs)
    by None o k later = (failed_is {A = Placed} SubsetError e k, outside r (0, omega arith, refl) o)
    by (Some s) o k later = second s o (later s) (bind_err (placed_string seen s) (λ at. placed storage (with_string seen s) rs >>= λ p. Ok (with_name r at p)) e k)

pub placed_length : (storage : List ℕ) (seen : List (List ℕ)) (rs : List NameRecord) (p : Placed) → placed storage seen rs ≡ Ok p → length p.names ≡ length rs
placed_length storage seen [] p h = ap (λ (q : Placed). length q.names) (sym (done_is (record { names = []; strings = seen }) p h))
placed_length storage seen (r ∷ rs) p h =
    let a = bind_ok (ok_or (string_of storage r) SubsetError) (λ s. placed_string seen s >>= λ at. placed storage (with_string seen s) rs >>= λ q. Ok (with_name r at q)) p h in
    let b = bind_ok (placed_string seen a.0) (λ at. placed storage (with_string seen a.0) rs >>= λ q. Ok (with_name r at q)) p a.2 in
    let c = bind_ok (placed storage (with_string seen a.0) rs) (λ q. Ok (with_name r b.0 q)) p b.2 in
    ap (λ (q : Placed). length q.names) (sym (done_is (with_name r b.0 c.0) p c.2)) ∙ ap suc (placed_length storage (with_string seen a.0) rs c.0 c.1)

-- ---- as names

contains_map : {X Y : Type 0} (f : X → Y) (xs : List X) (k : ℕ) (x : X) → k < length xs → slice_index_or xs k x ≡ x → Contains (map f xs) (f x)
contains_map f [] k x lt e = absurd (omega arith)
contains_map f (y ∷ xs) zero x lt e = (0, omega arith, ap f e)
contains_map f (y ∷ xs) (suc k) x lt e = later_one (map f xs) (f y) (f x) (contains_map f xs k x (omega arith) e)

strings_alike : (storage : List ℕ) (rs : List NameRecord) → filter_map (λ (n : Name). n.string) (map (name_of_record storage) rs) ≡ readable storage rs
strings_alike storage [] = refl
strings_alike storage (r ∷ rs) = ap (cons_option (string_of storage r)) (strings_alike storage rs)

pub kept_strings_are : (t : NameTable) → kept_strings (map (name_of_record t.storage) t.records) ≡ readable t.storage (filter is_kept_record t.records)
kept_strings_are t = ap (filter_map (λ (n : Name). n.string)) (kept_alike t.storage t.records) ∙ strings_alike t.storage (filter is_kept_record t.records)

abbrev few_by : Bool → Placed → Result NameTable Error
few_by b p = cond b (Ok (record { records = p.names; storage = joined p.strings })) (Err SubsetError)

abbrev pub names_of : NameTable → List Name
names_of t = map (name_of_record t.storage) t.records

pub records_are : (bytes : List ℕ) (t : NameTable) → name_table bytes ≡ Some t → name_records bytes ≡ Some (names_of t)
records_are bytes t read = ap (option_map (λ (x : NameTable). names_of x)) read

subset_refused : (find : List ℕ → Option (List ℕ)) (bytes : List ℕ) (t : NameTable) (e : Error) → find (codes "name") ≡ Some bytes → name_table bytes ≡ Some t → subset_names t ≡ Err e → HasNameFault find e
unfolding subset_names
subset_refused find bytes t e is read h =
    by (bind_err (placed t.storage [] (filter is_kept_record t.records)) few_names e h)
  where
    wrong : Misplaced t.storage [] (filter is_kept_record t.records) → HasNameFault find SubsetError
    wrong (outside r c n) = name_string_outside bytes (names_of t) (name_of_record t.storage r) is (records_are bytes t read) (subst (λ (l : List Name). Contains l (name_of_record t.storage r)) (sym (kept_alike t.storage t.records)) (contains_map (name_of_record t.storage) (filter is_kept_record t.records) c.0 r c.1 c.2)) n
    wrong (far s c lt) = name_string_too_far bytes (names_of t) s is (records_are bytes t read) (subst (λ (l : List (List ℕ)). Contains l s) (sym (kept_strings_are t)) c) (subst (λ (l : List (List ℕ)). 65535 < string_offset (distinct l) s) (sym (kept_strings_are t)) lt)

    many : (p : Placed) → placed t.storage [] (filter is_kept_record t.records) ≡ Ok p → (b : Bool) → leb (length p.names) 5460 ≡ b → few_by b p ≡ Err e → HasNameFault find e
    many p k true b j = absurd cc
    many p k false b j =
        let more : 5460 < length p.names = leb-false _ _ b in
        let count : length (filter is_kept_name (names_of t)) ≡ length (filter is_kept_record t.records) = ap length (kept_alike t.storage t.records) ∙ length-map (filter is_kept_record t.records) (name_of_record t.storage) in
        subst (HasNameFault find) (failed_is {A = NameTable} SubsetError e j) (too_many_names bytes (names_of t) is (records_are bytes t read) (omega (arith, count, placed_length t.storage [] (filter is_kept_record t.records) p k)))

    by : (placed t.storage [] (filter is_kept_record t.records) ≡ Err e) ⊎ ((p : Placed) × (placed t.storage [] (filter is_kept_record t.records) ≡ Ok p) × (few_names p ≡ Err e)) → HasNameFault find e
    by (inl k) = let m = misplaced t.storage [] (filter is_kept_record t.records) e k in subst (HasNameFault find) m.0 (wrong m.1)
    by (inr k) = many k.0 k.1 (leb (length k.0.names) 5460) refl k.2

table_refused : (find : List ℕ → Option (List ℕ)) (bytes : List ℕ) (e : Error) → find (codes "name") ≡ Some bytes → name_of_table bytes ≡ Err e → HasNameFault find e
unfolding name_of_table
table_refused find bytes e is h =
    first (bind_err (ok_or (number bytes 0 2) MalformedFont) (λ version. cond (eqb version 0) (ok_or (name_parts bytes) MalformedFont >>= λ t. subset_names t >>= λ n. Ok (name_bytes n.records n.storage)) (Ok bytes)) e h)
  where
    fourth : (t : NameTable) → name_table bytes ≡ Some t → (subset_names t ≡ Err e) ⊎ ((n : NameTable) × (subset_names t ≡ Ok n) × (Ok (name_bytes n.records n.storage) ≡ Err e)) → HasNameFault find e
    fourth t read (inl k) = subset_refused find bytes t e is read k
    fourth t read (inr k) = absurd cc

    third : (version : ℕ) → number bytes 0 2 ≡ Some version → eqb version 0 ≡ true → (ok_or (name_parts bytes) MalformedFont ≡ Err e) ⊎ ((t : NameTable) × (ok_or (name_parts bytes) MalformedFont ≡ Ok t) × ((subset_names t >>= λ n. Ok (name_bytes n.records n.storage)) ≡ Err e)) → HasNameFault find e
    third version v z (inl k) = let u = named_err (name_parts bytes) MalformedFont e k in subst (HasNameFault find) u.1 (cut_parts find bytes is (v ∙ ap Some (eqb-true version 0 z)) u.0)
    third version v z (inr k) = fourth k.0 (read_by_version bytes version k.0 v z (named_ok (name_parts bytes) MalformedFont k.0 k.1)) (bind_err (subset_names k.0) (λ n. Ok (name_bytes n.records n.storage)) e k.2)

    second : (version : ℕ) → number bytes 0 2 ≡ Some version → (b : Bool) → eqb version 0 ≡ b → cond b (ok_or (name_parts bytes) MalformedFont >>= λ t. subset_names t >>= λ n. Ok (name_bytes n.records n.storage)) (Ok bytes) ≡ Err e → HasNameFault find e
    second version v true z k = third version v z (bind_err (ok_or (name_parts bytes) MalformedFont) (λ t. subset_names t >>= λ n. Ok (name_bytes n.records n.storage)) e k)
    second version v false z k = absurd cc

    first : (ok_or (number bytes 0 2) MalformedFont ≡ Err e) ⊎ ((version : ℕ) × (ok_or (number bytes 0 2) MalformedFont ≡ Ok version) × (cond (eqb version 0) (ok_or (name_parts bytes) MalformedFont >>= λ t. subset_names t >>= λ n. Ok (name_bytes n.records n.storage)) (Ok bytes) ≡ Err e)) → HasNameFault find e
    first (inl k) = let u = named_err (number bytes 0 2) MalformedFont e k in subst (HasNameFault find) u.1 (name_without_version bytes is (omega (arith, number-short bytes 0 2 u.0)))
    first (inr k) = second k.0 (named_ok (number bytes 0 2) MalformedFont k.0 k.1) (eqb k.0 0) refl k.2

pub name_refused : (find : List ℕ → Option (List ℕ)) (e : Error) → name_of find ≡ Err e → HasNameFault find e
unfolding new_name
name_refused find e h = by (find (codes "name")) refl h
  where
    later : (bytes : List ℕ) → find (codes "name") ≡ Some bytes → (name_of_table bytes ≡ Err e) ⊎ ((x : List ℕ) × (name_of_table bytes ≡ Ok x) × (Ok (Some x) ≡ Err e)) → HasNameFault find e
    later bytes o (inl k) = table_refused find bytes e o k
    later bytes o (inr k) = absurd cc

    by : (o : Option (List ℕ)) → find (codes "name") ≡ o → new_name o ≡ Err e → HasNameFault find e
    by None o k = absurd cc
    by (Some bytes) o k = later bytes o (bind_err (name_of_table bytes) (λ x. Ok (Some x)) e k)
