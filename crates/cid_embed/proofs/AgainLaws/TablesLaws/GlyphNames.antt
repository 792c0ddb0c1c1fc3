-- `post` of a subset is answered as that of the first font.
use Rattle.std.proofs.Common.{◌≡◌, ℕ, suc, ◌+◌, ◌*◌, ◌<◌, ◌≤◌, Bool, true, false, cond, eqb, leb, List, [], ◌∷◌, ◌++◌, length, get_or, take, drop, Option, Some, None, Ok, Err, refl, sym, ap, subst, ◌∙◌, inl, inr, arith}
use Rattle.std.specs.Prelude.{codes, map, flat_map}
use Rattle.std.specs.Option.{option_and_then, option_map, ok_or}
use Rattle.std.specs.List.{AllByRecursion}
use Rattle.std.specs.Int.{w32, to_be_bytes}
use Rattle.std.proofs.lemmas.Bool.{leb-true, le-leb, lt-leb, cases_lt}
use Rattle.std.proofs.lemmas.List.{length-map, get_or-map, drop-take}
use Rattle.subsetter_base.specs.Bytes.{IsBytes, be, range, number, ◌>>=◌, from_offset}
use Rattle.subsetter_base.specs.declared.error.Error.TheVariants.{MalformedFont, OverflowError}
use Rattle.subsetter_base.proofs.ByteLemmas.{range-fits, range-take_drop}
use Rattle.subsetter_base.proofs.Options.{just, just_is, bind_some}
use Rattle.subsetter_base.proofs.Results.{named_ok, done_is, bind_ok}
use Rattle.subsetter_sfnt.specs.Extras.{without_glyph_names}
use Rattle.subsetter.specs.Common.Post.Read.{GlyphName, Standard, PostTable, names_in, post_parts, post_table, glyph_index, name_of_index, index_bytes, entry_bytes, post_bytes}
use Rattle.subsetter.specs.Common.Post.Plain.{indexes_of, custom_count, post_of_indexes, subset_glyph_names, post_of_table, new_post, post_of}
use Rattle.subsetter.proofs.CommonLaws.NameLaws.Back.{AllBytes, all_bytes, all_drop}
use Rattle.subsetter.proofs.CommonLaws.PostLaws.Indexes.{customs}
use Rattle.subsetter.proofs.CommonLaws.PostLaws.Own.{customs_counted}
use Rattle.subsetter.proofs.CommonLaws.PostLaws.Kept.{IsNamed, new_index, named_back, customs_back, all_short, all_named, indexes_are, nth_of_map, post_back, headed, post_read, post_unread, glyph_back}
use Rattle.subsetter.proofs.CommonLaws.PostLaws.WithoutNames.{header_kept}
use Rattle.cid_embed.proofs.AgainLaws.Basics.{one_found}
use Rattle.cid_embed.proofs.AgainLaws.OrderLaws.Places.{AreAt, same_lists}

-- indexes, one by one
all_indexes : (t : PostTable) (gs is : List ℕ) → length is ≡ length gs → ((i : ℕ) → i < length gs → glyph_index t (get_or gs i 0) ≡ Some (get_or is i 0)) → indexes_of t gs ≡ Ok is
all_indexes t [] [] len h = refl
all_indexes t [] (x ∷ is) len h = absurd (omega (arith, len))
all_indexes t (g ∷ gs) [] len h = absurd (omega (arith, len))
all_indexes t (g ∷ gs) (x ∷ is) len h =
    ap (λ o. ok_or o MalformedFont >>= λ i. indexes_of t gs >>= λ rest. Ok (i ∷ rest)) (h 0 (omega arith))
    ∙ ap (λ r. r >>= λ rest. Ok (x ∷ rest)) (all_indexes t gs is (omega (arith, len)) (λ i lt. h (suc i) (omega arith)))

-- the bytes that hold the names
tail_bytes : (source x : List ℕ) (at : ℕ) → AllBytes source → from_offset source at ≡ Some x → AllBytes x
tail_bytes source x at all k = by (leb at (length source)) k
  where
    by : (b : Bool) → cond b (Some (drop at source)) None ≡ Some x → AllBytes x
    by true j = subst AllBytes (just_is (drop at source) x j) (all_drop at source all)
    by false j = absurd cc

names_bytes : (source : List ℕ) (t : PostTable) → AllBytes source → post_parts source ≡ Some t → AllBytes t.names_data
names_bytes source t all h =
    let a = bind_some (range source 0 32) (λ header. option_and_then (λ count. option_and_then (λ indexes. option_and_then (λ names. Some (record { header = header; indexes = record { bytes = indexes; count = count }; names_data = names })) (from_offset source (34 + count * 2))) (range source 34 (count * 2))) (number source 32 2)) t h in
    let b = bind_some (number source 32 2) (λ count. option_and_then (λ indexes. option_and_then (λ names. Some (record { header = a.0; indexes = record { bytes = indexes; count = count }; names_data = names })) (from_offset source (34 + count * 2))) (range source 34 (count * 2))) t a.2 in
    let c = bind_some (range source 34 (b.0 * 2)) (λ indexes. option_and_then (λ names. Some (record { header = a.0; indexes = record { bytes = indexes; count = b.0 }; names_data = names })) (from_offset source (34 + b.0 * 2))) t b.2 in
    let d = bind_some (from_offset source (34 + b.0 * 2)) (λ names. Some (record { header = a.0; indexes = record { bytes = c.0; count = b.0 }; names_data = names })) t c.2 in
    let same : d.0 ≡ t.names_data = cc in
    subst AllBytes {x = d.0} same (tail_bytes source d.0 (34 + b.0 * 2) all d.1)

-- ---- what `post` of a subset is

data PostIs (source order new : List ℕ) : Type 0 where
  is_rewritten : (t : PostTable) (is : List ℕ) → post_table source ≡ Some t → indexes_of t order ≡ Ok is → custom_count is ≤ 65278 → new ≡ post_bytes t.header (map (name_of_index (names_in t.names_data)) is) → PostIs source order new
  is_copied : (version : ℕ) → number source 0 4 ≡ Some version → eqb version 0x00020000 ≡ false → new ≡ source → PostIs source order new

post_is : (source order new : List ℕ) → post_of_table source order ≡ Ok new → PostIs source order new
unfolding post_of_table subset_glyph_names post_of_indexes
post_is source order new h =
    let a = bind_ok (ok_or (number source 0 4) MalformedFont) (λ version. cond (eqb version 0x00020000) (ok_or (post_table source) MalformedFont >>= λ t. indexes_of t order >>= λ is. post_of_indexes t is) (Ok source)) new h in
    by (eqb a.0 0x00020000) a.0 (named_ok (number source 0 4) MalformedFont a.0 a.1) refl a.2
  where
    written : (t : PostTable) (is : List ℕ) → post_table source ≡ Some t → indexes_of t order ≡ Ok is → (b : Bool) → leb (custom_count is) 65278 ≡ b → cond b (Ok (post_bytes t.header (map (name_of_index (names_in t.names_data)) is))) (Err OverflowError) ≡ Ok new → PostIs source order new
    written t is read k true e j = is_rewritten t is read k (leb-true _ _ e) (sym (done_is (post_bytes t.header (map (name_of_index (names_in t.names_data)) is)) new j))
    written t is read k false e j = absurd cc

    by : (b : Bool) (version : ℕ) → number source 0 4 ≡ Some version → eqb version 0x00020000 ≡ b → cond b (ok_or (post_table source) MalformedFont >>= λ t. indexes_of t order >>= λ is. post_of_indexes t is) (Ok source) ≡ Ok new → PostIs source order new
    by true version v e k =
        let c = bind_ok (ok_or (post_table source) MalformedFont) (λ t. indexes_of t order >>= λ is. post_of_indexes t is) new k in
        let d = bind_ok (indexes_of c.0 order) (post_of_indexes c.0) new c.2 in
        written c.0 d.0 (named_ok (post_table source) MalformedFont c.0 c.1) d.1 (leb (custom_count d.0) 65278) refl d.2
    by false version v e k = is_copied version v e (sym (done_is source new k))

-- a table of another version
copied_as : (glyphs source : List ℕ) (version : ℕ) → number source 0 4 ≡ Some version → eqb version 0x00020000 ≡ false → post_of_table source glyphs ≡ Ok source
unfolding post_of_table
copied_as glyphs source version v e =
    ap (λ o. ok_or o MalformedFont >>= λ x. cond (eqb x 0x00020000) (ok_or (post_table source) MalformedFont >>= λ t. subset_glyph_names t glyphs) (Ok source)) v
    ∙ ap (λ b. cond b (ok_or (post_table source) MalformedFont >>= λ t. subset_glyph_names t glyphs) (Ok source)) e

-- one of version 2.0, by the indexes of its glyphs
rewritten_as : (source glyphs : List ℕ) (t : PostTable) (is : List ℕ) → number source 0 4 ≡ Some 0x00020000 → post_table source ≡ Some t → indexes_of t glyphs ≡ Ok is
    → post_of_table source glyphs ≡ cond (leb (custom_count is) 65278) (Ok (post_bytes t.header (map (name_of_index (names_in t.names_data)) is))) (Err OverflowError)
unfolding post_of_table subset_glyph_names post_of_indexes
rewritten_as source glyphs t is version read indexes =
    ap (λ o. ok_or o MalformedFont >>= λ v. cond (eqb v 0x00020000) (ok_or (post_table source) MalformedFont >>= λ x. indexes_of x glyphs >>= post_of_indexes x) (Ok source)) version
    ∙ ap (λ o. ok_or o MalformedFont >>= λ x. indexes_of x glyphs >>= post_of_indexes x) read
    ∙ ap (λ r. r >>= post_of_indexes t) indexes

module _ (L M order : List ℕ) (few : length L < 65536) (at : AreAt L M order) (source : List ℕ) (bytes : IsBytes source) (t : PostTable) (is : List ℕ) (read : post_table source ≡ Some t) (indexes : indexes_of t L ≡ Ok is) (own : custom_count is ≤ 65278) where
  abbrev names : List (List ℕ)
  names = names_in t.names_data

  abbrev ns : List GlyphName
  ns = map (name_of_index names) is

  -- what was written, read afresh
  abbrev back : PostTable
  back = record { header = t.header; indexes = record { bytes = index_bytes 0 ns; count = length ns }; names_data = flat_map entry_bytes ns }

  count : length is ≡ length L
  count = (indexes_are t L is indexes).count

  len : length ns ≡ length L
  len = length-map is (name_of_index names) ∙ count

  named : AllByRecursion IsNamed ns
  named = all_named names is (all_short (length t.names_data) t.names_data (names_bytes source t (all_bytes source bytes) (post_unread source t read).1))

  few_own : length (customs ns) ≤ 65278
  few_own = omega (arith, customs_counted names is, own)

  -- the indexes of the glyphs, in either table
  abbrev ks : List ℕ
  ks = map (λ k. get_or is k 0) M

  abbrev js : List ℕ
  js = map (new_index 0 ns) M

  nth_ks : (i : ℕ) → i < length M → get_or ks i 0 ≡ get_or is (get_or M i 0) 0
  nth_ks i lt = get_or-map (λ k. get_or is k 0) M i 0 0 lt

  nth_js : (i : ℕ) → i < length M → get_or js i 0 ≡ new_index 0 ns (get_or M i 0)
  nth_js i lt = get_or-map (new_index 0 ns) M i 0 0 lt

  by_first : indexes_of t order ≡ Ok ks
  by_first =
      let size = length-map M (λ k. get_or is k 0) in
      all_indexes t order ks (omega (arith, at.size, size)) (λ i lt. let less : i < length M = omega (arith, lt, at.size) in ap (glyph_index t) (at.nth i less) ∙ (indexes_are t L is indexes).each (get_or M i 0) (at.within i less) ∙ ap just (sym (nth_ks i less)))

  by_subset : indexes_of back M ≡ Ok js
  by_subset = all_indexes back M js (length-map M (new_index 0 ns)) (λ i lt. glyph_back t.header ns (get_or M i 0) named few_own (omega (arith, at.within i lt, len)) ∙ ap just (sym (nth_js i lt)))

  -- they name the same
  names_by_first : (i : ℕ) → i < length M → get_or (map (name_of_index names) ks) i (Standard 0) ≡ get_or ns (get_or M i 0) (Standard 0)
  names_by_first i lt =
      nth_of_map (name_of_index names) ks i (omega (arith, lt, length-map M (λ k. get_or is k 0))) ∙ ap (name_of_index names) (nth_ks i lt) ∙ sym (nth_of_map (name_of_index names) is (get_or M i 0) (omega (arith, at.within i lt, count)))

  names_by_subset : (i : ℕ) → i < length M → get_or (map (name_of_index (names_in back.names_data)) js) i (Standard 0) ≡ get_or ns (get_or M i 0) (Standard 0)
  names_by_subset i lt =
      nth_of_map (name_of_index (names_in back.names_data)) js i (omega (arith, lt, length-map M (new_index 0 ns))) ∙ ap (λ (l : List (List ℕ)). name_of_index l (get_or js i 0)) (customs_back ns named)
      ∙ ap (name_of_index (customs ns)) (nth_js i lt) ∙ named_back [] 0 ns (get_or M i 0) refl named (omega (arith, at.within i lt, len))

  same_names : map (name_of_index (names_in back.names_data)) js ≡ map (name_of_index names) ks
  same_names =
      let a = length-map js (name_of_index (names_in back.names_data)) ∙ length-map M (new_index 0 ns) in
      let b = length-map ks (name_of_index names) ∙ length-map M (λ k. get_or is k 0) in
      same_lists _ _ (Standard 0) (omega (arith, a, b)) (λ i lt. let less : i < length M = omega (arith, lt, a) in names_by_subset i less ∙ sym (names_by_first i less))

  same_count : custom_count js ≡ custom_count ks
  same_count = sym (customs_counted (names_in back.names_data) js) ∙ ap (λ (l : List GlyphName). length (customs l)) same_names ∙ customs_counted names ks

  rewritten_again : post_of_table (post_bytes t.header ns) M ≡ post_of_table source order
  rewritten_again =
      let p = post_unread source t read in
      let head = headed source t p.1 in
      let b = post_back t.header ns head.long (omega (arith, len, few)) in
      let version : number (post_bytes t.header ns) 0 4 ≡ Some 0x00020000 = b.version ∙ ap just (one_found (number source 0 4) (be (take 4 t.header)) 0x00020000 head.version p.0) in
      rewritten_as (post_bytes t.header ns) M back js version (post_read (post_bytes t.header ns) back version b.table) by_subset
      ∙ ap (λ (l : List GlyphName). cond (leb (custom_count js) 65278) (Ok (post_bytes t.header l)) (Err OverflowError)) same_names
      ∙ ap (λ (n : ℕ). cond (leb n 65278) (Ok (post_bytes t.header (map (name_of_index names) ks))) (Err OverflowError)) same_count
      ∙ sym (rewritten_as source order t ks p.0 read by_first)

table_again : (L M order : List ℕ) → length L < 65536 → AreAt L M order → (source middle : List ℕ) → IsBytes source → PostIs source L middle → post_of_table middle M ≡ post_of_table source order
table_again L M order few at source middle bytes (is_rewritten t is read indexes own a) = ap (λ (l : List ℕ). post_of_table l M) a ∙ rewritten_again L M order few at source bytes t is read indexes own
table_again L M order few at source middle bytes (is_copied version v e a) = ap (λ (l : List ℕ). post_of_table l M) a ∙ copied_as M source version v e ∙ sym (copied_as order source version v e)

pub post_of_again : (find copy : List ℕ → Option (List ℕ)) (L M order : List ℕ) (middle : Option (List ℕ)) → ((bytes : List ℕ) → find (codes "post") ≡ Some bytes → IsBytes bytes) → length L < 65536 → AreAt L M order → post_of find L ≡ Ok middle → copy (codes "post") ≡ middle → post_of copy M ≡ post_of find order
unfolding new_post
post_of_again find copy L M order middle fit few at h is = ap (λ (o : Option (List ℕ)). new_post o M) is ∙ by (find (codes "post")) refl h
  where
    by : (o : Option (List ℕ)) → find (codes "post") ≡ o → new_post o L ≡ Ok middle → new_post middle M ≡ new_post o order
    by None there k = ap (λ (o : Option (List ℕ)). new_post o M) (sym (done_is None middle k))
    by (Some source) there k =
        let a = bind_ok (post_of_table source L) (λ x. Ok (Some x)) middle k in
        ap (λ (o : Option (List ℕ)). new_post o M) (sym (done_is (Some a.0) middle a.2)) ∙ ap (λ r. r >>= λ x. Ok (Some x)) (table_again L M order few at source a.0 (fit source there) (post_is source L a.0 a.1))

-- ---- without the names of glyphs

-- a header of 32 bytes, under version 3.0
bare_long : (bytes : List ℕ) → 32 ≤ length bytes → without_glyph_names bytes ≡ to_be_bytes w32 0x00030000 ++ take 28 (drop 4 bytes)
bare_long bytes le = ap (λ b. cond b (to_be_bytes w32 0x00030000 ++ take 28 (drop 4 bytes)) bytes) (le-leb 32 (length bytes) le)

-- what is taken of a table is in its first 32 bytes
in_header : (bytes header : List ℕ) → range bytes 0 32 ≡ Some header → (32 ≤ length bytes) × (take 28 (drop 4 bytes) ≡ drop 4 header)
in_header bytes header h =
    let long = range-fits bytes header 0 32 h in
    let is : header ≡ take 32 bytes = just_is header (take 32 bytes) (sym h ∙ range-take_drop bytes 0 32 long) in
    (long, sym (drop-take 4 28 bytes) ∙ ap (drop 4) (sym is))

same_header : (source copy header : List ℕ) → range source 0 32 ≡ Some header → range copy 0 32 ≡ Some header → without_glyph_names copy ≡ without_glyph_names source
same_header source copy header h k =
    let a = in_header source header h in
    let b = in_header copy header k in
    bare_long copy b.0 ∙ ap (λ (l : List ℕ). to_be_bytes w32 0x00030000 ++ l) (b.1 ∙ sym a.1) ∙ sym (bare_long source a.0)

-- a table of another version than 2.0 is answered alike, whatever the glyphs
copied_bare : (M order source : List ℕ) (version : ℕ) → number source 0 4 ≡ Some version → eqb version 0x00020000 ≡ false → new_post (Some (without_glyph_names source)) M ≡ new_post (Some (without_glyph_names source)) order
unfolding new_post
copied_bare M order source version v e = elim (cases_lt (length source) 32) [
  | inl lt ↦
      let as_is : without_glyph_names source ≡ source = ap (λ b. cond b (to_be_bytes w32 0x00030000 ++ take 28 (drop 4 source)) source) (lt-leb 32 (length source) lt) in
      ap (λ (l : List ℕ). post_of_table l M >>= λ new. Ok (Some new)) as_is ∙ ap (λ r. r >>= λ new. Ok (Some new)) (copied_as M source version v e ∙ sym (copied_as order source version v e)) ∙ ap (λ (l : List ℕ). post_of_table l order >>= λ new. Ok (Some new)) (sym as_is)
  | inr le ↦ header_kept source M le ∙ sym (header_kept source order le)
]

bare_table : (L M order source middle : List ℕ) → length L < 65536 → PostIs source L middle → new_post (Some (without_glyph_names middle)) M ≡ new_post (Some (without_glyph_names source)) order
bare_table L M order source middle few (is_rewritten t is read indexes own a) =
    let ns = map (name_of_index (names_in t.names_data)) is in
    let head = headed source t (post_unread source t read).1 in
    let count : length ns < 65536 = omega (arith, length-map is (name_of_index (names_in t.names_data)), (indexes_are t L is indexes).count, few) in
    let back = post_back t.header ns head.long count in
    let there : range middle 0 32 ≡ Some t.header = ap (λ (l : List ℕ). range l 0 32) a ∙ back.header_is in
    header_kept middle M (in_header middle t.header there).0 ∙ ap (λ (l : List ℕ). Ok (Some l)) (same_header source middle t.header head.header there) ∙ sym (header_kept source order (in_header source t.header head.header).0)
bare_table L M order source middle few (is_copied version v e a) = ap (λ (l : List ℕ). new_post (Some (without_glyph_names l)) M) a ∙ copied_bare M order source version v e

pub bare_post_again : (find copy : List ℕ → Option (List ℕ)) (L M order : List ℕ) (middle : Option (List ℕ)) → length L < 65536 → post_of find L ≡ Ok middle → copy (codes "post") ≡ middle
    → new_post (option_map without_glyph_names (copy (codes "post"))) M ≡ new_post (option_map without_glyph_names (find (codes "post"))) order
unfolding new_post
bare_post_again find copy L M order middle few h is = ap (λ (o : Option (List ℕ)). new_post (option_map without_glyph_names o) M) is ∙ by (find (codes "post")) h
  where
    by : (o : Option (List ℕ)) → new_post o L ≡ Ok middle → new_post (option_map without_glyph_names middle) M ≡ new_post (option_map without_glyph_names o) order
    by None k = ap (λ (o : Option (List ℕ)). new_post (option_map without_glyph_names o) M) (sym (done_is None middle k))
    by (Some source) k =
        let a = bind_ok (post_of_table source L) (λ x. Ok (Some x)) middle k in
        ap (λ (o : Option (List ℕ)). new_post (option_map without_glyph_names o) M) (sym (done_is (Some a.0) middle a.2)) ∙ bare_table L M order source a.0 few (post_is source L a.0 a.1)
