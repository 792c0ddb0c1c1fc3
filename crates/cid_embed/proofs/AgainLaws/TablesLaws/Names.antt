-- `name` of a subset is answered as that of the first font, which is itself.
use Rattle.std.proofs.Common.{◌≡◌, ℕ, ◌≤◌, Bool, true, false, cond, eqb, ltb, List, [], ◌∷◌, length, Option, Some, None, Ok, Err, refl, sym, ap, subst, ◌∙◌}
use Rattle.std.specs.Prelude.{codes, filter}
use Rattle.std.specs.Option.{ok_or}
use Rattle.std.specs.List.{AllByRecursion}
use Rattle.std.proofs.lemmas.Bool.{le-leb, eqb-true}
use Rattle.subsetter_base.specs.Bytes.{IsBytes, range, number, ◌>>=◌}
use Rattle.subsetter_base.specs.declared.error.Error.TheVariants.{MalformedFont, SubsetError}
use Rattle.subsetter_sfnt.specs.declared.fields.name.NameRecord.{NameRecord}
use Rattle.subsetter.specs.Common.Name.Read.{NameTable, name_parts, name_table, is_kept_record, with_string, with_strings, string_offset, joined, name_bytes}
use Rattle.subsetter_sfnt.specs.Fields.Name.{string_of}
use Rattle.subsetter.specs.Common.Name.Plain.{Placed, placed_string, with_name, placed, few_names, subset_names, name_of_table, new_name, name_of}
use Rattle.subsetter_base.proofs.Options.{bind_some}
use Rattle.subsetter.proofs.CommonLaws.NameLaws.Back.{FitsRecord, all_bytes, fits_kept, table_back}
use Rattle.subsetter.proofs.CommonLaws.NameLaws.Back.{range_found}
use Rattle.subsetter_base.proofs.Results.{bind_ok}
use Rattle.subsetter_base.proofs.Results.{named_ok, done_is}
use Rattle.subsetter.proofs.CommonLaws.NameLaws.Kept.{stored, placed_as, PlacedAs, fit_table, subsetted}

abbrev IsKept : NameRecord → Type 0
IsKept r = is_kept_record r ≡ true

filtered : (rs : List NameRecord) → AllByRecursion IsKept (filter is_kept_record rs)
filtered [] = tt
filtered (r ∷ rs) = by (is_kept_record r) refl (filtered rs)
  where
    by : (b : Bool) → is_kept_record r ≡ b → AllByRecursion IsKept (filter is_kept_record rs) → AllByRecursion IsKept (cond b (r ∷ filter is_kept_record rs) (filter is_kept_record rs))
    by true e h = (e, h)
    by false e h = h

filter_same : (rs : List NameRecord) → AllByRecursion IsKept rs → filter is_kept_record rs ≡ rs
filter_same [] h = refl
filter_same (r ∷ rs) h = ap (λ b. cond b (r ∷ filter is_kept_record rs) (filter is_kept_record rs)) h.0 ∙ ap (λ (l : List NameRecord). r ∷ l) (filter_same rs h.1)

-- records that were placed are kept, and are placed alike in the strings that they use
pub record PlacedAgain (seen : List (List ℕ)) (p : Placed) : Type 0 where
  pub kept : AllByRecursion IsKept p.names
  pub again : placed (joined p.strings) seen p.names ≡ Ok p

near : (seen : List (List ℕ)) (s : List ℕ) (at : ℕ) → placed_string seen s ≡ Ok at → string_offset seen s ≡ at
near seen s at h = by (ltb (string_offset seen s) 65536) h
  where
    by : (b : Bool) → cond b (Ok (string_offset seen s)) (Err SubsetError) ≡ Ok at → string_offset seen s ≡ at
    by true k = done_is (string_offset seen s) at k
    by false k = absurd cc

one_again : (storage : List ℕ) (seen : List (List ℕ)) (r : NameRecord) (rs : List NameRecord) (s : List ℕ) (at : ℕ) (q : Placed) → IsKept r → string_of storage r ≡ Some s → placed_string seen s ≡ Ok at → PlacedAs storage (with_string seen s) rs q → PlacedAgain (with_string seen s) q → PlacedAgain seen (with_name r at q)
one_again storage seen r rs s at q kept h k parts later =
    let size : length s ≡ r.length = (range_found storage r.string_offset r.length s h).long in
    let st = stored seen parts.strings s in
    let where_is : range (joined q.strings) at r.length ≡ Some s = ap (λ (l : List (List ℕ)). range (joined l) at r.length) parts.all ∙ ap (λ (n : ℕ). range (joined (with_strings (with_string seen s) parts.strings)) n r.length) (sym (near seen s at k)) ∙ ap (range (joined (with_strings (with_string seen s) parts.strings)) (string_offset seen s)) (sym size) ∙ st.bytes in
    record {
      kept = (kept, later.kept);
      again =
          ap (λ o. ok_or o SubsetError >>= λ x. placed_string seen x >>= λ n. placed (joined q.strings) (with_string seen x) q.names >>= λ y. Ok (with_name r n y)) where_is
          ∙ ap (λ o. o >>= λ n. placed (joined q.strings) (with_string seen s) q.names >>= λ y. Ok (with_name r n y)) k
          ∙ ap (λ o. o >>= λ y. Ok (with_name r at y)) later.again;
    }

placed_again : (storage : List ℕ) (seen : List (List ℕ)) (rs : List NameRecord) (p : Placed) → AllByRecursion FitsRecord rs → AllByRecursion IsKept rs → placed storage seen rs ≡ Ok p → PlacedAgain seen p
placed_again storage seen [] p fit kept h = subst (PlacedAgain seen) (done_is (record { names = []; strings = seen }) p h) (record { kept = tt; again = refl })
placed_again storage seen (r ∷ rs) p fit kept h =
    let a = bind_ok (ok_or (string_of storage r) SubsetError) (λ s. placed_string seen s >>= λ at. placed storage (with_string seen s) rs >>= λ q. Ok (with_name r at q)) p h in
    let b = bind_ok (placed_string seen a.0) (λ at. placed storage (with_string seen a.0) rs >>= λ q. Ok (with_name r at q)) p a.2 in
    let c = bind_ok (placed storage (with_string seen a.0) rs) (λ q. Ok (with_name r b.0 q)) p b.2 in
    subst (PlacedAgain seen) (done_is (with_name r b.0 c.0) p c.2)
    (one_again storage seen r rs a.0 b.0 c.0 kept.0 (named_ok (string_of storage r) SubsetError a.0 a.1) b.1 (placed_as storage (with_string seen a.0) rs c.0 fit.1 c.1) (placed_again storage (with_string seen a.0) rs c.0 fit.1 kept.1 c.1))

-- ---- the table

unread : (bytes : List ℕ) (t : NameTable) → name_table bytes ≡ Some t → (number bytes 0 2 ≡ Some 0) × (name_parts bytes ≡ Some t)
unfolding name_table
unread bytes t h =
    let a = bind_some (number bytes 0 2) (λ version. cond (eqb version 0) (name_parts bytes) None) t h in
    by a.0 a.1 (eqb a.0 0) refl a.2
  where
    by : (v : ℕ) → number bytes 0 2 ≡ Some v → (b : Bool) → eqb v 0 ≡ b → cond b (name_parts bytes) None ≡ Some t → (number bytes 0 2 ≡ Some 0) × (name_parts bytes ≡ Some t)
    by v e true z k = (e ∙ ap (λ (n : ℕ). Some n) (eqb-true v 0 z), k)
    by v e false z k = absurd cc

written_again : (bytes : List ℕ) (t : NameTable) (p : Placed) → name_table bytes ≡ Some (record { records = p.names; storage = joined p.strings }) → PlacedAgain [] p → length p.names ≤ 5460 → name_of_table bytes ≡ Ok (name_bytes p.names (joined p.strings))
unfolding name_of_table subset_names
written_again bytes t p read again few =
    let u = unread bytes (record { records = p.names; storage = joined p.strings }) read in
    let end = λ (x : NameTable). Ok (name_bytes x.records x.storage) in
    ap (λ o. ok_or o MalformedFont >>= λ version. cond (eqb version 0) (ok_or (name_parts bytes) MalformedFont >>= λ x. placed x.storage [] (filter is_kept_record x.records) >>= few_names >>= end) (Ok bytes)) u.0
    ∙ ap (λ o. ok_or o MalformedFont >>= λ x. placed x.storage [] (filter is_kept_record x.records) >>= few_names >>= end) u.1
    ∙ ap (λ l. placed (joined p.strings) [] l >>= few_names >>= end) (filter_same p.names again.kept)
    ∙ ap (λ o. o >>= few_names >>= end) again.again
    ∙ ap (λ b. cond b (Ok (record { records = p.names; storage = joined p.strings })) (Err SubsetError) >>= end) (le-leb _ _ few)

table_again : (source : List ℕ) (t n : NameTable) → IsBytes source → name_parts source ≡ Some t → subset_names t ≡ Ok n → name_of_table (name_bytes n.records n.storage) ≡ Ok (name_bytes n.records n.storage)
table_again source t n bytes read h =
    let s = subsetted t n h in
    let fit = fits_kept t.records (fit_table source t (all_bytes source bytes) read) in
    let parts = placed_as t.storage [] (filter is_kept_record t.records) s.p fit s.placed_is in
    let back = table_back s.p.names (joined s.p.strings) parts.fit s.few in
    let same : name_bytes n.records n.storage ≡ name_bytes s.p.names (joined s.p.strings) = ap (λ (r : List NameRecord). name_bytes r n.storage) s.records ∙ ap (name_bytes s.p.names) s.storage in
    subst (λ (l : List ℕ). name_of_table l ≡ Ok l) (sym same)
    (written_again (name_bytes s.p.names (joined s.p.strings)) t s.p back.table (placed_again t.storage [] (filter is_kept_record t.records) s.p fit (filtered t.records) s.placed_is) s.few)

copied_again : (source : List ℕ) (version : ℕ) → number source 0 2 ≡ Some version → eqb version 0 ≡ false → name_of_table source ≡ Ok source
unfolding name_of_table
copied_again source version v e =
    ap (λ o. ok_or o MalformedFont >>= λ x. cond (eqb x 0) (ok_or (name_parts source) MalformedFont >>= λ t. subset_names t >>= λ n. Ok (name_bytes n.records n.storage)) (Ok source)) v
    ∙ ap (λ b. cond b (ok_or (name_parts source) MalformedFont >>= λ t. subset_names t >>= λ n. Ok (name_bytes n.records n.storage)) (Ok source)) e

name_again : (source new : List ℕ) → IsBytes source → name_of_table source ≡ Ok new → name_of_table new ≡ Ok new
unfolding name_of_table
name_again source new bytes h =
    let a = bind_ok (ok_or (number source 0 2) MalformedFont) (λ version. cond (eqb version 0) (ok_or (name_parts source) MalformedFont >>= λ t. subset_names t >>= λ n. Ok (name_bytes n.records n.storage)) (Ok source)) new h in
    by (eqb a.0 0) a.0 (named_ok (number source 0 2) MalformedFont a.0 a.1) refl a.2
  where
    by : (b : Bool) (version : ℕ) → number source 0 2 ≡ Some version → eqb version 0 ≡ b → cond b (ok_or (name_parts source) MalformedFont >>= λ t. subset_names t >>= λ n. Ok (name_bytes n.records n.storage)) (Ok source) ≡ Ok new → name_of_table new ≡ Ok new
    by true version v e k =
        let c = bind_ok (ok_or (name_parts source) MalformedFont) (λ t. subset_names t >>= λ n. Ok (name_bytes n.records n.storage)) new k in
        let d = bind_ok (subset_names c.0) (λ n. Ok (name_bytes n.records n.storage)) new c.2 in
        subst (λ (l : List ℕ). name_of_table l ≡ Ok l) (done_is (name_bytes d.0.records d.0.storage) new d.2) (table_again source c.0 d.0 bytes (named_ok (name_parts source) MalformedFont c.0 c.1) d.1)
    by false version v e k = subst (λ (l : List ℕ). name_of_table l ≡ Ok l) (done_is source new k) (copied_again source version v e)

-- so it is answered as that of the first font
pub name_of_again : (find back : List ℕ → Option (List ℕ)) (middle : Option (List ℕ)) → ((bytes : List ℕ) → find (codes "name") ≡ Some bytes → IsBytes bytes) → name_of find ≡ Ok middle → back (codes "name") ≡ middle → name_of back ≡ name_of find
unfolding new_name
name_of_again find back middle fit h at = ap new_name at ∙ by (find (codes "name")) refl h ∙ sym h
  where
    by : (o : Option (List ℕ)) → find (codes "name") ≡ o → new_name o ≡ Ok middle → new_name middle ≡ Ok middle
    by None is k = subst (λ (x : Option (List ℕ)). new_name x ≡ Ok x) (done_is None middle k) refl
    by (Some source) is k =
        let a = bind_ok (name_of_table source) (λ x. Ok (Some x)) middle k in
        subst (λ (x : Option (List ℕ)). new_name x ≡ Ok x) (done_is (Some a.0) middle a.2) (ap (λ r. r >>= λ x. Ok (Some x)) (name_again source a.0 (fit source is) a.1))
