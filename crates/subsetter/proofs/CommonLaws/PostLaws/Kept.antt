-- A subset of `post` has the names of its glyphs.
use Rattle.std.proofs.Common.{◌≡◌, ℕ, zero, suc, ◌+◌, ◌-◌, ◌*◌, ◌%◌, ◌<◌, ◌≤◌, Bool, true, false, cond, leb, ltb, eqb, List, [], ◌∷◌, ◌++◌, length, get_or, take, drop, Option, Some, None, Ok, Err, refl, sym, ap, subst, ◌∙◌, append_assoc, arith}
use Rattle.std.specs.Prelude.{map, filter, flat_map, codes, slice_index}
use Rattle.std.specs.Option.{option_and_then, option_map, ok_or}
use Rattle.std.specs.List.{AllByRecursion}
use Rattle.std.specs.Int.{w16, to_be_bytes}
use Rattle.std.proofs.lemmas.Bool.{le-leb, leb-true, lt-ltb, le-ltb, ltb-true, ltb-false, leb-false, eqb-true, false≢true}
use Rattle.std.proofs.lemmas.List.{length-append, length-map, length-take, take_at, drop_at, take-take, take-append-drop, take_rest}
use Rattle.std.proofs.lemmas.List.Sums.{length-filter}
use Rattle.subsetter_base.specs.Bytes.{IsBytes, be, range, number, ◌>>=◌, from_offset}
use Rattle.subsetter_base.specs.Items.{item}
use Rattle.subsetter_base.specs.declared.error.Error.TheVariants.{MalformedFont, OverflowError}
use Rattle.subsetter_base.proofs.Results.{bind_ok, named_ok, done_is}
use Rattle.subsetter_base.proofs.Options.{bind_some}
use Rattle.subsetter_base.proofs.ByteLemmas.{range-middle, be-u16}
use Rattle.subsetter.specs.Common.Post.Read.{GlyphName, Standard, Custom, PostTable, pascal_strings, names_in, post_parts, post_table, glyph_index, name_of_index, index_bytes, entry_bytes, post_bytes, HasGlyphNames, KeepsGlyphNames, rewritten, copied}
use Rattle.subsetter.specs.Common.Post.Plain.{indexes_of, custom_count, post_of_indexes, subset_glyph_names, post_of_table, new_post, post_of}
use Rattle.subsetter.proofs.CommonLaws.NameLaws.Back.{AllBytes, all_bytes, all_drop, tail_at, range_found}
use Rattle.subsetter.proofs.CommonLaws.PostLaws.Indexes.{first_name, customs}

-- a standard name is one of 258, and a name of the font's own has at most 255 bytes
abbrev pub IsNamed : GlyphName → Type 0
IsNamed (Standard j) = j < 258
IsNamed (Custom s) = length s < 256

-- the index that a name gets, of which k own ones came before
abbrev pub new_index : ℕ → List GlyphName → ℕ → ℕ
new_index k [] i = 0
new_index k (Standard j ∷ ns) zero = j
new_index k (Standard j ∷ ns) (suc i) = new_index k ns i
new_index k (Custom s ∷ ns) zero = 258 + k
new_index k (Custom s ∷ ns) (suc i) = new_index (k + 1) ns i

pub length-index : (k : ℕ) (ns : List GlyphName) → length (index_bytes k ns) ≡ length ns * 2
length-index k [] = refl
length-index k (Standard j ∷ ns) = omega (arith, length-index k ns)
length-index k (Custom s ∷ ns) = omega (arith, length-index (k + 1) ns)

pub index_at : (k : ℕ) (ns : List GlyphName) (i : ℕ) (pre bytes : List ℕ) (at : ℕ) → i < length ns → bytes ≡ pre ++ index_bytes k ns → at ≡ length pre + i * 2 → range bytes at 2 ≡ Some (to_be_bytes w16 (new_index k ns i))
index_at k [] i pre bytes at lt is a = absurd (omega arith)
index_at k (Standard j ∷ ns) zero pre bytes at lt is a = range-middle bytes pre (to_be_bytes w16 j) (index_bytes k ns) at 2 is (omega arith) refl
index_at k (Custom s ∷ ns) zero pre bytes at lt is a = range-middle bytes pre (to_be_bytes w16 (258 + k)) (index_bytes (k + 1) ns) at 2 is (omega arith) refl
index_at k (Standard j ∷ ns) (suc i) pre bytes at lt is a =
    index_at k ns i (pre ++ to_be_bytes w16 j) bytes at (omega arith) (is ∙ sym (append_assoc pre (to_be_bytes w16 j) (index_bytes k ns))) (omega (arith, length-append pre (to_be_bytes w16 j)))
index_at k (Custom s ∷ ns) (suc i) pre bytes at lt is a =
    index_at (k + 1) ns i (pre ++ to_be_bytes w16 (258 + k)) bytes at (omega arith) (is ∙ sym (append_assoc pre (to_be_bytes w16 (258 + k)) (index_bytes (k + 1) ns))) (omega (arith, length-append pre (to_be_bytes w16 (258 + k))))

pub index_small : (k : ℕ) (ns : List GlyphName) (i : ℕ) → AllByRecursion IsNamed ns → k + length (customs ns) ≤ 65278 → new_index k ns i < 65536
index_small k [] i all few = omega arith
index_small k (Standard j ∷ ns) zero all few = let x : j < 258 = all.0 in omega arith
index_small k (Standard j ∷ ns) (suc i) all few = index_small k ns i all.1 few
index_small k (Custom s ∷ ns) zero all few = omega arith
index_small k (Custom s ∷ ns) (suc i) all few = index_small (k + 1) ns i all.1 (omega arith)

-- a name by its place among names
pub nth_name : (front : List (List ℕ)) (s : List ℕ) (rest : List (List ℕ)) (n : ℕ) → n ≡ length front → get_or (front ++ s ∷ rest) n [] ≡ s
nth_name [] s rest n e = ap (λ (m : ℕ). get_or (s ∷ rest) m []) e
nth_name (x ∷ front) s rest zero e = absurd (omega arith)
nth_name (x ∷ front) s rest (suc n) e = nth_name front s rest n (omega arith)

pub named_back : (front : List (List ℕ)) (k : ℕ) (ns : List GlyphName) (i : ℕ) → k ≡ length front → AllByRecursion IsNamed ns → i < length ns → name_of_index (front ++ customs ns) (new_index k ns i) ≡ get_or ns i (Standard 0)
named_back front k [] i e all lt = absurd (omega arith)
named_back front k (Standard j ∷ ns) zero e all lt = ap (λ b. cond b (Standard j) (Custom (get_or (front ++ customs ns) (j - 258) []))) (lt-ltb _ _ all.0)
named_back front k (Standard j ∷ ns) (suc i) e all lt = named_back front k ns i e all.1 (omega arith)
named_back front k (Custom s ∷ ns) zero e all lt =
    ap (λ b. cond b (Standard (258 + k)) (Custom (get_or (front ++ s ∷ customs ns) (258 + k - 258) []))) (le-ltb _ _ (omega arith)) ∙ ap Custom (nth_name front s (customs ns) (258 + k - 258) (omega arith))
named_back front k (Custom s ∷ ns) (suc i) e all lt =
    ap (λ (l : List (List ℕ)). name_of_index l (new_index (k + 1) ns i)) (sym (append_assoc front (s ∷ []) (customs ns))) ∙ named_back (front ++ s ∷ []) (k + 1) ns i (omega (arith, length-append front (s ∷ []))) all.1 (omega arith)

-- entries are read back as the own names
pub customs_back : (ns : List GlyphName) → AllByRecursion IsNamed ns → names_in (flat_map entry_bytes ns) ≡ customs ns
customs_back [] all = refl
customs_back (Standard j ∷ ns) all = customs_back ns all.1
customs_back (Custom s ∷ ns) all =
    let short : length s < 256 = all.0 in
    let rest = flat_map entry_bytes ns in
    let size : length s % 256 ≡ length s = omega arith in
    let one : names_in ((length s % 256) ∷ (s ++ rest)) ≡ take (length s) (s ++ rest) ∷ names_in (take (length (s ++ rest) - length s) (drop (length s) (s ++ rest))) = first_name ((length s % 256) ∷ (s ++ rest)) (s ++ rest) (length s) (ap (λ (n : ℕ). n ∷ (s ++ rest)) size) (omega (arith, length-append s rest)) in
    let same : take (length s) (s ++ rest) ≡ s = take_at s rest (length s) refl in
    let more : take (length (s ++ rest) - length s) (drop (length s) (s ++ rest)) ≡ rest = take_rest (s ++ rest) (length s) ∙ drop_at s rest (length s) refl in
    one ∙ ap (λ (x : List ℕ). x ∷ names_in (take (length (s ++ rest) - length s) (drop (length s) (s ++ rest)))) same ∙ ap (λ (x : List ℕ). s ∷ names_in x) more ∙ ap (λ (l : List (List ℕ)). s ∷ l) (customs_back ns all.1)

-- names that were read are short
abbrev pub AreShort : List (List ℕ) → Type 0
AreShort ss = AllByRecursion (λ (s : List ℕ). length s < 256) ss

pub all_short : (n : ℕ) (bytes : List ℕ) → AllBytes bytes → AreShort (pascal_strings n bytes)
all_short zero bytes all = tt
all_short (suc n) [] all = tt
all_short (suc n) (x ∷ bytes) all = by (leb x (length bytes)) (all_short n (drop x bytes) (all_drop x bytes all.1))
  where
    by : (b : Bool) → AreShort (pascal_strings n (drop x bytes)) → AreShort (cond b (take x bytes ∷ pascal_strings n (drop x bytes)) [])
    by true more = (let small : x < 256 = all.0 in omega (arith, length-take x bytes), more)
    by false more = tt

pub nth_short : (ss : List (List ℕ)) (k : ℕ) → AreShort ss → length (get_or ss k []) < 256
nth_short [] k all = omega arith
nth_short (s ∷ ss) zero all = all.0
nth_short (s ∷ ss) (suc k) all = nth_short ss k all.1

pub all_named : (names : List (List ℕ)) (is : List ℕ) → AreShort names → AllByRecursion IsNamed (map (name_of_index names) is)
all_named names [] all = tt
all_named names (i ∷ is) all = (by (ltb i 258) refl, all_named names is all)
  where
    by : (b : Bool) → ltb i 258 ≡ b → IsNamed (cond b (Standard i) (Custom (get_or names (i - 258) [])))
    by true t = ltb-true i 258 t
    by false t = nth_short names (i - 258) all

pub customs_count : (names : List (List ℕ)) (is : List ℕ) → length (customs (map (name_of_index names) is)) ≡ length (filter (λ (i : ℕ). leb 258 i) is)
customs_count names [] = refl
customs_count names (i ∷ is) = by (ltb i 258) (leb 258 i) refl refl (customs_count names is)
  where
    by : (b d : Bool) → ltb i 258 ≡ b → leb 258 i ≡ d → length (customs (map (name_of_index names) is)) ≡ length (filter (λ (i : ℕ). leb 258 i) is)
        → length (customs (cond b (Standard i) (Custom (get_or names (i - 258) [])) ∷ map (name_of_index names) is)) ≡ length (cond d (i ∷ filter (λ (i : ℕ). leb 258 i) is) (filter (λ (i : ℕ). leb 258 i) is))
    by true true t u e = let x : i < 258 = ltb-true _ _ t in let y : 258 ≤ i = leb-true _ _ u in absurd (omega arith)
    by true false t u e = e
    by false true t u e = ap suc e
    by false false t u e = let x : 258 ≤ i = ltb-false _ _ t in let y : i < 258 = leb-false _ _ u in absurd (omega arith)

-- ---- the indexes of the order

pub record IndexesAre (t : PostTable) (order is : List ℕ) : Type 0 where
  pub count : length is ≡ length order
  pub each : (i : ℕ) → i < length order → glyph_index t (get_or order i 0) ≡ Some (get_or is i 0)

pub indexes_are : (t : PostTable) (order is : List ℕ) → indexes_of t order ≡ Ok is → IndexesAre t order is
indexes_are t [] is h = subst (IndexesAre t []) (done_is [] is h) (record { count = refl; each = λ i lt. absurd (omega arith) })
indexes_are t (g ∷ gs) is h =
    let a = bind_ok (ok_or (glyph_index t g) MalformedFont) (λ i. indexes_of t gs >>= λ rest. Ok (i ∷ rest)) is h in
    let b = bind_ok (indexes_of t gs) (λ rest. Ok (a.0 ∷ rest)) is a.2 in
    let later = indexes_are t gs b.0 b.1 in
    subst (IndexesAre t (g ∷ gs)) (done_is (a.0 ∷ b.0) is b.2) (record { count = ap suc later.count; each = each_of a.0 b.0 (named_ok (glyph_index t g) MalformedFont a.0 a.1) later.each })
  where
    each_of : (x : ℕ) (rest : List ℕ) → glyph_index t g ≡ Some x → ((i : ℕ) → i < length gs → glyph_index t (get_or gs i 0) ≡ Some (get_or rest i 0)) → (i : ℕ) → i < length (g ∷ gs) → glyph_index t (get_or (g ∷ gs) i 0) ≡ Some (get_or (x ∷ rest) i 0)
    each_of x rest e later zero lt = e
    each_of x rest e later (suc i) lt = later i (omega arith)

pub nth_of_map : (f : ℕ → GlyphName) (is : List ℕ) (i : ℕ) → i < length is → get_or (map f is) i (Standard 0) ≡ f (get_or is i 0)
nth_of_map f [] i lt = absurd (omega arith)
nth_of_map f (x ∷ is) zero lt = refl
nth_of_map f (x ∷ is) (suc i) lt = nth_of_map f is i (omega arith)

-- ---- a table

-- what is read of a table that was written
pub record PostBack (new header : List ℕ) (ns : List GlyphName) : Type 0 where
  pub header_is : range new 0 32 ≡ Some header
  pub count_is : number new 32 2 ≡ Some (length ns)
  pub table : post_parts new ≡ Some (record { header = header; indexes = record { bytes = index_bytes 0 ns; count = length ns }; names_data = flat_map entry_bytes ns })
  pub version : number new 0 4 ≡ Some (be (take 4 header))

by_one : (a b c d : List ℕ) → a ++ b ++ c ++ d ≡ a ++ (b ++ (c ++ d))
by_one a b c d = simp append_assoc

by_two : (a b c d : List ℕ) → a ++ b ++ c ++ d ≡ (a ++ b) ++ (c ++ d)
by_two a b c d = simp append_assoc

by_three : (a b c d : List ℕ) → a ++ b ++ c ++ d ≡ ((a ++ b) ++ c) ++ d
by_three a b c d = simp append_assoc

by_half : (x y a b c d : List ℕ) → a ≡ x ++ y → a ++ b ++ c ++ d ≡ x ++ (y ++ (b ++ (c ++ d)))
by_half x y a b c d e = by_one a b c d ∙ ap (λ (l : List ℕ). l ++ (b ++ (c ++ d))) e ∙ append_assoc x y (b ++ (c ++ d))

pub post_back : (header : List ℕ) (ns : List GlyphName) → length header ≡ 32 → length ns < 65536 → PostBack (post_bytes header ns) header ns
unfolding post_bytes
post_back header ns long few =
    let n = length ns in
    let count = to_be_bytes w16 n in
    let indexes = index_bytes 0 ns in
    let names = flat_map entry_bytes ns in
    let new = header ++ count ++ indexes ++ names in
    let header_is : range new 0 32 ≡ Some header = range-middle new [] header (count ++ (indexes ++ names)) 0 32 (by_one header count indexes names) refl (sym long) in
    let count_is : number new 32 2 ≡ Some n = ap (option_map be) (range-middle new header count (indexes ++ names) 32 2 (by_one header count indexes names) (sym long) refl) ∙ ap Some (be-u16 n few) in
    let front : length (header ++ count) ≡ 34 = omega (arith, length-append header count) in
    let indexes_there : range new 34 (n * 2) ≡ Some indexes = range-middle new (header ++ count) indexes names 34 (n * 2) (by_two header count indexes names) (sym front) (sym (length-index 0 ns)) in
    let names_there : from_offset new (34 + n * 2) ≡ Some names = tail_at new ((header ++ count) ++ indexes) names (34 + n * 2) (by_three header count indexes names) (omega (arith, front, length-append (header ++ count) indexes, length-index 0 ns)) in
    record {
      header_is = header_is;
      count_is = count_is;
      table = rw (header_is, count_is, indexes_there, names_there) refl;
      version = ap (option_map be) (range-middle new [] (take 4 header) (drop 4 header ++ (count ++ (indexes ++ names))) 0 4 (by_half (take 4 header) (drop 4 header) header count indexes names (sym (take-append-drop 4 header))) refl (omega (arith, length-take 4 header)));
    }

-- the header and the version of a table
pub record Headed (source : List ℕ) (t : PostTable) : Type 0 where
  pub header : range source 0 32 ≡ Some t.header
  pub long : length t.header ≡ 32
  pub version : number source 0 4 ≡ Some (be (take 4 t.header))

pub headed : (source : List ℕ) (t : PostTable) → post_parts source ≡ Some t → Headed source t
headed source t h =
    let a = bind_some (range source 0 32) (λ header. option_and_then (λ count. option_and_then (λ indexes. option_and_then (λ names. Some (record { header = header; indexes = record { bytes = indexes; count = count }; names_data = names })) (from_offset source (34 + count * 2))) (range source 34 (count * 2))) (number source 32 2)) t h in
    let b = bind_some (number source 32 2) (λ count. option_and_then (λ indexes. option_and_then (λ names. Some (record { header = a.0; indexes = record { bytes = indexes; count = count }; names_data = names })) (from_offset source (34 + count * 2))) (range source 34 (count * 2))) t a.2 in
    let c = bind_some (range source 34 (b.0 * 2)) (λ indexes. option_and_then (λ names. Some (record { header = a.0; indexes = record { bytes = indexes; count = b.0 }; names_data = names })) (from_offset source (34 + b.0 * 2))) t b.2 in
    let d = bind_some (from_offset source (34 + b.0 * 2)) (λ names. Some (record { header = a.0; indexes = record { bytes = c.0; count = b.0 }; names_data = names })) t c.2 in
    let same : a.0 ≡ t.header = cc in
    let w = range_found source 0 32 a.0 a.1 in
    let four : take 4 t.header ≡ take 4 source = ap (take 4) (sym same ∙ w.is) ∙ take-take 4 32 source (omega arith) in
    let v : range source 0 4 ≡ Some (take 4 source) = ap (λ b. cond b (Some (take 4 source)) None) (le-leb _ _ (omega (arith, w.within))) in
    record { header = a.1 ∙ ap Some same; long = ap length (sym same) ∙ w.long; version = ap (option_map be) v ∙ ap (λ (l : List ℕ). Some (be l)) (sym four) }

pub post_read : (source : List ℕ) (t : PostTable) → number source 0 4 ≡ Some 0x00020000 → post_parts source ≡ Some t → post_table source ≡ Some t
unfolding post_table
post_read source t v h = ap (option_and_then (λ (x : ℕ). cond (eqb x 0x00020000) (post_parts source) None)) v ∙ h

pub post_unread : (source : List ℕ) (t : PostTable) → post_table source ≡ Some t → (number source 0 4 ≡ Some 0x00020000) × (post_parts source ≡ Some t)
unfolding post_table
post_unread source t h =
    let a = bind_some (number source 0 4) (λ (x : ℕ). cond (eqb x 0x00020000) (post_parts source) None) t h in
    by a.0 a.1 (eqb a.0 0x00020000) refl a.2
  where
    by : (v : ℕ) → number source 0 4 ≡ Some v → (b : Bool) → eqb v 0x00020000 ≡ b → cond b (post_parts source) None ≡ Some t → (number source 0 4 ≡ Some 0x00020000) × (post_parts source ≡ Some t)
    by v e true z k = (e ∙ ap Some (eqb-true v 0x00020000 z), k)
    by v e false z k = absurd cc

-- an index that was written
pub glyph_back : (header : List ℕ) (ns : List GlyphName) (i : ℕ) → AllByRecursion IsNamed ns → length (customs ns) ≤ 65278 → i < length ns → glyph_index (record { header = header; indexes = record { bytes = index_bytes 0 ns; count = length ns }; names_data = flat_map entry_bytes ns }) i ≡ Some (new_index 0 ns i)
glyph_back header ns i all few lt =
    let within : ltb i (length ns) ≡ true = lt-ltb _ _ lt in
    let there_is : range (index_bytes 0 ns) (i * 2) 2 ≡ Some (to_be_bytes w16 (new_index 0 ns i)) = index_at 0 ns i [] (index_bytes 0 ns) (i * 2) lt refl (omega arith) in
    let it : item 2 (record { bytes = index_bytes 0 ns; count = length ns }) i ≡ Some (to_be_bytes w16 (new_index 0 ns i)) = ap (λ b. cond b (range (index_bytes 0 ns) (i * 2) 2) None) within ∙ there_is in
    ap (option_and_then (λ (bytes : List ℕ). Some (be bytes))) it ∙ ap Some (be-u16 (new_index 0 ns i) (index_small 0 ns i all (omega arith)))

pub has_glyph_names : (source order is : List ℕ) (t : PostTable) → AllBytes source → number source 0 4 ≡ Some 0x00020000 → post_parts source ≡ Some t → length order < 65536 → indexes_of t order ≡ Ok is → custom_count is ≤ 65278
    → HasGlyphNames source (post_bytes t.header (map (name_of_index (names_in t.names_data)) is)) order
has_glyph_names source order is t all v parts few h small =
    let names = names_in t.names_data in
    let ns = map (name_of_index names) is in
    let head = headed source t parts in
    let each = indexes_are t order is h in
    let len : length ns ≡ length order = length-map is (name_of_index names) ∙ each.count in
    let back = post_back t.header ns head.long (omega (arith, len)) in
    let named_all = all_named names is (all_short (length t.names_data) t.names_data (names_bytes source t all parts)) in
    let count : length (customs ns) ≤ 65278 = omega (arith, customs_count names is, length-filter (λ (i : ℕ). leb 258 i) is, small) in
    let new_read : post_table (post_bytes t.header ns) ≡ Some (record { header = t.header; indexes = record { bytes = index_bytes 0 ns; count = length ns }; names_data = flat_map entry_bytes ns }) = post_read (post_bytes t.header ns) _ (back.version ∙ sym head.version ∙ v) back.table in
    let source_read = post_read source t v parts in
    record {
      header = t.header;
      source_header = head.header;
      new_header = back.header_is;
      count = back.count_is ∙ ap Some len;
      name = λ i lt. get_or ns i (Standard 0);
      source_name = λ i lt.
          let index = each.each i lt in
          ap (option_and_then (λ (x : PostTable). option_and_then (λ (j : ℕ). Some (name_of_index (names_in x.names_data) j)) (glyph_index x (slice_index order i)))) source_read ∙ ap (option_and_then (λ (j : ℕ). Some (name_of_index names j))) index ∙ ap Some (sym (nth_of_map (name_of_index names) is i (omega (arith, each.count))));
      new_name = λ i lt.
          let at : i < length ns = omega (arith, len) in
          ap (option_and_then (λ (x : PostTable). option_and_then (λ (j : ℕ). Some (name_of_index (names_in x.names_data) j)) (glyph_index x i))) new_read ∙ ap (option_and_then (λ (j : ℕ). Some (name_of_index (names_in (flat_map entry_bytes ns)) j))) (glyph_back t.header ns i named_all count at)
          ∙ ap (λ (l : List (List ℕ)). Some (name_of_index l (new_index 0 ns i))) (customs_back ns named_all) ∙ ap Some (named_back [] 0 ns i refl named_all at);
    }
  where
    names_bytes : (source : List ℕ) (t : PostTable) → AllBytes source → post_parts source ≡ Some t → AllBytes t.names_data
    names_bytes source t all h =
        let a = bind_some (range source 0 32) (λ header. option_and_then (λ count. option_and_then (λ indexes. option_and_then (λ names. Some (record { header = header; indexes = record { bytes = indexes; count = count }; names_data = names })) (from_offset source (34 + count * 2))) (range source 34 (count * 2))) (number source 32 2)) t h in
        let b = bind_some (number source 32 2) (λ count. option_and_then (λ indexes. option_and_then (λ names. Some (record { header = a.0; indexes = record { bytes = indexes; count = count }; names_data = names })) (from_offset source (34 + count * 2))) (range source 34 (count * 2))) t a.2 in
        let c = bind_some (range source 34 (b.0 * 2)) (λ indexes. option_and_then (λ names. Some (record { header = a.0; indexes = record { bytes = indexes; count = b.0 }; names_data = names })) (from_offset source (34 + b.0 * 2))) t b.2 in
        let d = bind_some (from_offset source (34 + b.0 * 2)) (λ names. Some (record { header = a.0; indexes = record { bytes = c.0; count = b.0 }; names_data = names })) t c.2 in
        let same : d.0 ≡ t.names_data = cc in
        subst AllBytes same (tail_bytes (34 + b.0 * 2) d.0 d.1)
      where
        tail_bytes : (at : ℕ) (x : List ℕ) → from_offset source at ≡ Some x → AllBytes x
        tail_bytes at x k = by (leb at (length source)) k
          where
            by : (b : Bool) → cond b (Some (drop at source)) None ≡ Some x → AllBytes x
            by true j = let e : drop at source ≡ x = cc in subst AllBytes e (all_drop at source all)
            by false j = absurd cc

pub keeps_post : (source new order : List ℕ) → IsBytes source → length order < 65536 → post_of_table source order ≡ Ok new → KeepsGlyphNames source new order
unfolding post_of_table subset_glyph_names post_of_indexes
keeps_post source new order bytes few h =
    let a = bind_ok (ok_or (number source 0 4) MalformedFont) (λ version. cond (eqb version 0x00020000) (ok_or (post_table source) MalformedFont >>= λ t. indexes_of t order >>= λ is. post_of_indexes t is) (Ok source)) new h in
    by (eqb a.0 0x00020000) a.0 (named_ok (number source 0 4) MalformedFont a.0 a.1) refl a.2
  where
    written : (t : PostTable) (is : List ℕ) → post_table source ≡ Some t → indexes_of t order ≡ Ok is → (b : Bool) → leb (custom_count is) 65278 ≡ b → cond b (Ok (post_bytes t.header (map (name_of_index (names_in t.names_data)) is))) (Err OverflowError) ≡ Ok new → KeepsGlyphNames source new order
    written t is read k true e j =
        let u = post_unread source t read in
        subst (λ (l : List ℕ). KeepsGlyphNames source l order) (done_is (post_bytes t.header (map (name_of_index (names_in t.names_data)) is)) new j) (rewritten u.0 (has_glyph_names source order is t (all_bytes source bytes) u.0 u.1 few k (leb-true _ _ e)))
    written t is read k false e j = absurd cc

    by : (b : Bool) (version : ℕ) → number source 0 4 ≡ Some version → eqb version 0x00020000 ≡ b → cond b (ok_or (post_table source) MalformedFont >>= λ t. indexes_of t order >>= λ is. post_of_indexes t is) (Ok source) ≡ Ok new → KeepsGlyphNames source new order
    by true version v e k =
        let c = bind_ok (ok_or (post_table source) MalformedFont) (λ t. indexes_of t order >>= λ is. post_of_indexes t is) new k in
        let d = bind_ok (indexes_of c.0 order) (post_of_indexes c.0) new c.2 in
        written c.0 d.0 (named_ok (post_table source) MalformedFont c.0 c.1) d.1 (leb (custom_count d.0) 65278) refl d.2
    by false version v e k = copied version v (λ z. false≢true (sym e ∙ ap (λ n. eqb n 0x00020000) z)) (sym (done_is source new k))

pub post_absent : (find : List ℕ → Option (List ℕ)) (order : List ℕ) → find (codes "post") ≡ None → post_of find order ≡ Ok None
unfolding new_post
post_absent find order h = ap (λ (o : Option (List ℕ)). new_post o order) h

pub post_kept : (find : List ℕ → Option (List ℕ)) (source order : List ℕ) (new : Option (List ℕ)) → find (codes "post") ≡ Some source → IsBytes source → length order < 65536 → post_of find order ≡ Ok new → (bytes : List ℕ) × (new ≡ Some bytes) × KeepsGlyphNames source bytes order
unfolding new_post
post_kept find source order new is bytes few h =
    let a = bind_ok (post_of_table source order) (λ x. Ok (Some x)) new (sym (ap (λ (o : Option (List ℕ)). new_post o order) is) ∙ h) in
    (a.0, sym (done_is (Some a.0) new a.2), keeps_post source a.0 order bytes few a.1)
