-- The parts of a new table, made of a source in memory.
use Rattle.std.proofs.Common.{◌≡◌, ℕ, zero, suc, ◌<◌, ◌≤◌, Bool, true, false, List, [], ◌∷◌, ◌++◌, length, map, Option, Some, None, refl, ap, arith, ◌∙◌, sym, append_assoc}
use Rattle.std.specs.Prelude.{slice_get, slice_index_or, unwrap_or, ◌==◌, ◌&&◌, nat_lt, Result, Ok, Err}
use Rattle.std.specs.List.{AllByRecursion}
use Rattle.std.specs.Option.{option_map, option_and_then, ok_or}
use Rattle.std.proofs.lemmas.Bool.{ltb-true}
use Rattle.std.proofs.lemmas.List.{append-nil}
use Rattle.std.proofs.lemmas.Option.{none-some, same_Some, slice_get-get_or}
use Rattle.subsetter_base.specs.Bytes.{◌>>=◌}
use Rattle.subsetter_base.specs.Gives.{Fails}
use Rattle.subsetter_base.specs.Indexes.{index_of, new_index}
use Rattle.subsetter_base.specs.declared.error.Error.{Error}
use Rattle.subsetter_base.specs.declared.error.Error.TheVariants.{MalformedFont, SubsetError, OverflowError}
use Rattle.subsetter_cffdata.specs.Dicts.Dict.{Entry, entries}
use Rattle.subsetter_cffdata.specs.Numerals.Numbers.{Number}
use Rattle.subsetter_cffdata.specs.Dicts.Operands.{just}
use Rattle.subsetter_cffdata.specs.Views.{number_of}
use Rattle.subsetter_cff.specs.declared.read.fd_array.font_dict.FontDict.{FontDict as StoredDict}
use Rattle.subsetter_cff.specs.declared.read.source.CIDMetadata.{CIDMetadata}
use Rattle.subsetter_cff.specs.declared.read.source.Table.{Table}
use Rattle.subsetter_cff.specs.declared.write.laying.table.TableParts.{TableParts}
use Rattle.subsetter_cff.specs.Read.Cff.{Cff}
use Rattle.subsetter_cff.specs.Read.FdArray.FontDictFaults.{IsFontDictIn}
use Rattle.subsetter_cff.specs.Read.FdArray.FontDictList.{AreFontDicts}
use Rattle.subsetter_cff.specs.Write.Glyphs.KeptView.{numbers_of, texts_of}
use Rattle.subsetter_cff.specs.Write.Laying.Layout.{FontDict, Select, Parts}
use Rattle.subsetter_cff.specs.Read.Entries.Lookup.{last_of}
use Rattle.subsetter_cff.specs.Read.Entries.Matrices.{thousandth_matrix, zero_box}
use Rattle.subsetter_cff.specs.Write.NewDicts.MatrixView.{shown, new_top_matrix, new_box}
use Rattle.subsetter_cff.specs.Write.Laying.PartsBy.{stored_dict, made_dict, only_font_dict, with_dicts, select_by, parts_by}
use Rattle.subsetter_cff.specs.Write.Laying.PartsView.{font_dict_view, parts_view, select_of_table, string_view}
use Rattle.subsetter_cff.specs.Read.Entries.OperandDemands.{Demand, so_many, top_demands, font_dict_demands}
use Rattle.subsetter_cff.specs.Read.Opened.{check, all_meet, all_lead, sound_font_dicts}
use Rattle.subsetter_cff.specs.Read.Entries.Operators.{copyright_operator, notice_operator, font_name_operator, font_matrix_operator, font_box_operator}
use Rattle.subsetter_cff.specs.Write.Plain.{KeptGlyph, used_numbers, as_source_dict, source_dict, new_font_dict, new_font_dicts, new_select, parts_for, counted_parts, all_parts}
use Rattle.subsetter_cff.specs.Read.FdArray.PrivateView.{private_view}
use Rattle.subsetter_cff.specs.Write.Strings.SidRemapping.{named}
use Rattle.subsetter_cff.specs.Read.Source.{cff_of, IsSource}
use Rattle.subsetter_cff.specs.Read.Strings.{FontString, string_at}
use Rattle.subsetter_cff.specs.Read.Entries.TopDicts.{last_numbers}
use Rattle.subsetter_cff.specs.Write.NewDicts.UsedFontDicts.{used_font_dicts, counted_font_dicts}
use Rattle.subsetter_cff.proofs.ReadLaws.EntriesLaws.Holding.{both}
use Rattle.subsetter_cff.proofs.ReadLaws.Failing.{fails_on}
use Rattle.subsetter_cff.proofs.WriteLaws.NewDictsLaws.FontDictSteps.{length-dicts}
use Rattle.subsetter_cff.proofs.ReadLaws.Results.{bind_ok, same_Ok, passed}
use Rattle.subsetter_cff.proofs.WriteLaws.GlyphsLaws.GlyphsKept.{keyed_as}
use Rattle.subsetter_cff.proofs.ReadLaws.EntriesLaws.LastHolds.{Held, last_holds, string_named}
use Rattle.subsetter_cff.proofs.WriteLaws.NewDictsLaws.UsedNumbers.{inserted_are}

-- ---- numbers that are demanded are as many
held_just : (n : ℕ) (operator : List ℕ) (o : Option (List Number)) → Held (record { operator = operator; holds = so_many n }) o → o ≡ option_and_then (just n) o
unfolding just
held_just n operator None held = refl
held_just n operator (Some xs) held = let h : (length xs == n) ≡ true = held.each xs refl in rw h refl

numbers_named : (ds : List Demand) (es : List Entry) (j n : ℕ) (operator : List ℕ) → all_meet ds es ≡ true → slice_get ds j ≡ Some (record { operator = operator; holds = so_many n }) → last_of operator es ≡ last_numbers n operator es
numbers_named ds es j n operator h is = held_just n operator (last_of operator es) (last_holds ds es j (record { operator = operator; holds = so_many n }) h is)

pub matrix_shown : (s : Table) → IsSource s → shown s.top.font_matrix ≡ last_of font_matrix_operator (cff_of s).top
matrix_shown s is = is.top.font_matrix ∙ sym (numbers_named top_demands (cff_of s).top 8 6 font_matrix_operator is.demands refl)

pub box_shown : (s : Table) → IsSource s → shown s.top.font_bbox ≡ last_of font_box_operator (cff_of s).top
box_shown s is = is.top.font_bbox ∙ sym (numbers_named top_demands (cff_of s).top 9 4 font_box_operator is.demands refl)

-- ---- a font dict of the source
stored_is : (cff : Cff) (es : List Entry) (f : StoredDict) → all_meet font_dict_demands es ≡ true → IsFontDictIn cff.bytes es f → as_source_dict cff es ≡ Some (stored_dict cff.strings f)
stored_is cff es f met is =
    let own : last_of font_matrix_operator es ≡ shown f.entries.font_matrix = numbers_named font_dict_demands es 2 6 font_matrix_operator met refl ∙ sym is.entries.font_matrix in
    let name : string_at cff.strings font_name_operator es ≡ named cff.strings (option_map (λ s. s.0) f.entries.font_name) =
    string_named cff.strings font_dict_demands es 1 font_name_operator met refl ∙ ap (named cff.strings) (sym is.entries.font_name) in
    rw (is.private, own, name) refl

found_dict : (cff : Cff) (ds : List (List ℕ)) (fs : List StoredDict) (n : ℕ) (f : StoredDict) → AreFontDicts cff.bytes ds fs → sound_font_dicts cff.bytes (map entries ds) ≡ true → slice_get fs n ≡ Some f
    → option_and_then (as_source_dict cff) (slice_get (map entries ds) n) ≡ Some (stored_dict cff.strings f)
found_dict cff [] [] n f are sound at = absurd (none-some f at)
found_dict cff [] (g ∷ fs) n f are sound at = absurd are
found_dict cff (d ∷ ds) [] n f are sound at = absurd are
found_dict cff (d ∷ ds) (g ∷ fs) zero f are sound at =
    let met = (both (all_meet font_dict_demands (entries d)) (all_lead cff.bytes (entries d) && sound_font_dicts cff.bytes (map entries ds)) sound).0 in
    stored_is cff (entries d) g met are.0 ∙ ap (λ (x : StoredDict). Some (stored_dict cff.strings x)) (same_Some g f at)
found_dict cff (d ∷ ds) (g ∷ fs) (suc n) f are sound at =
    let rest = both (all_meet font_dict_demands (entries d)) (all_lead cff.bytes (entries d) && sound_font_dicts cff.bytes (map entries ds)) sound in
    found_dict cff ds fs n f are.1 (both (all_lead cff.bytes (entries d)) (sound_font_dicts cff.bytes (map entries ds)) rest.1).1 at

missing_dict : (table : List ℕ) (ds : List (List ℕ)) (fs : List StoredDict) (n : ℕ) → AreFontDicts table ds fs → length fs ≤ n → slice_get (map entries ds) n ≡ None
missing_dict table [] [] n are le = refl
missing_dict table [] (g ∷ fs) n are le = absurd are
missing_dict table (d ∷ ds) [] n are le = absurd are
missing_dict table (d ∷ ds) (g ∷ fs) zero are le = absurd (omega arith)
missing_dict table (d ∷ ds) (g ∷ fs) (suc n) are le = missing_dict table ds fs n are.1 (omega arith)

by_steps : (cff : Cff) (n : ℕ) → new_font_dict cff n ≡ (ok_or (source_dict cff n) MalformedFont >>= made_dict (last_of font_matrix_operator cff.top))
unfolding new_font_dict made_dict
by_steps cff n = refl

pub dict_is : (s : Table) (c : CIDMetadata) (n : ℕ) (f : StoredDict) → IsSource s → s.cid ≡ Some c → slice_get c.font_dicts.items n ≡ Some f
    → made_dict (shown s.top.font_matrix) (stored_dict (cff_of s).strings f) ≡ new_font_dict (cff_of s) n
dict_is s c n f is e at =
    let k = keyed_as s (Some c) is e in
    let found : source_dict (cff_of s) n ≡ Some (stored_dict (cff_of s).strings f) = rw (k.0, k.1.dicts_are) (found_dict (cff_of s) k.1.dicts c.font_dicts.items n f k.1.made k.1.sound at) in
    ap (λ (m : Option (List Number)). made_dict m (stored_dict (cff_of s).strings f)) (matrix_shown s is)
    ∙ sym (by_steps (cff_of s) n ∙ ap (λ o. ok_or o MalformedFont >>= made_dict (last_of font_matrix_operator (cff_of s).top)) found)

no_dict_is : (s : Table) (c : CIDMetadata) (n : ℕ) → IsSource s → s.cid ≡ Some c → length c.font_dicts.items ≤ n → new_font_dict (cff_of s) n ≡ Err MalformedFont
no_dict_is s c n is e le =
    let k = keyed_as s (Some c) is e in
    let missing : source_dict (cff_of s) n ≡ None = rw (k.0, k.1.dicts_are, missing_dict (cff_of s).bytes k.1.dicts c.font_dicts.items n k.1.made le) refl in
    by_steps (cff_of s) n ∙ ap (λ o. ok_or o MalformedFont >>= made_dict (last_of font_matrix_operator (cff_of s).top)) missing

pub no_dict_there : (s : Table) (c : CIDMetadata) (n : ℕ) (here : List StoredDict) → IsSource s → s.cid ≡ Some c → here ≡ c.font_dicts.items → length here ≤ n → new_font_dict (cff_of s) n ≡ Err MalformedFont
no_dict_there s c n here is e same le = no_dict_is s c n is e (omega (arith, le, ap length same))

pub found_at : (here fs : List StoredDict) (n : ℕ) (f : StoredDict) → here ≡ fs → n < length here → f ≡ slice_index_or here n f → slice_get fs n ≡ Some f
found_at here fs n f same lt is = rw (← same) (slice_get-get_or here n f lt ∙ ap (λ (g : StoredDict). Some g) (sym is))

pub only_is : (s : Table) (n : ℕ) → IsSource s → s.cid ≡ None → new_font_dict (cff_of s) n ≡ Ok (only_font_dict (private_view s.private))
unfolding new_font_dict
only_is s n is e = rw (keyed_as s None is e, ← is.own) refl

-- ---- one after the other
pub none_following : (r : Result (List FontDict) Error) → with_dicts [] r ≡ r
none_following (Ok xs) = refl
none_following (Err e) = refl

moved : (front : List FontDict) (f : FontDict) (r : Result (List FontDict) Error) → with_dicts front (r >>= λ rest. Ok (f ∷ rest)) ≡ with_dicts (front ++ f ∷ []) r
moved front f (Ok xs) = ap (λ (l : List FontDict). Ok l) (sym (append_assoc front (f ∷ []) xs))
moved front f (Err e) = refl

pub next_dict : (cff : Cff) (n : ℕ) (ns : List ℕ) (front : List FontDict) (one : FontDict) (whole : Result (List FontDict) Error)
    → with_dicts front (new_font_dicts cff (n ∷ ns)) ≡ whole → new_font_dict cff n ≡ Ok one → with_dicts (front ++ one ∷ []) (new_font_dicts cff ns) ≡ whole
next_dict cff n ns front one whole same e = sym (moved front one (new_font_dicts cff ns)) ∙ rw e at same

pub next_fails : (cff : Cff) (n : ℕ) (ns : List ℕ) (front : List FontDict) (e : Error) (whole : Result (List FontDict) Error)
    → with_dicts front (new_font_dicts cff (n ∷ ns)) ≡ whole → Fails e (new_font_dict cff n) → Fails e whole
next_fails cff n ns front e whole same h =
    fails_on (new_font_dicts cff (n ∷ ns)) (λ more. Ok (front ++ more)) whole e same
    (fails_on (new_font_dict cff n) (λ first. new_font_dicts cff ns >>= λ rest. Ok (first ∷ rest)) (new_font_dicts cff (n ∷ ns)) e refl h)

pub last_dict : (cff : Cff) (front : List FontDict) (whole : Result (List FontDict) Error) → with_dicts front (new_font_dicts cff []) ≡ whole → whole ≡ Ok front
last_dict cff front whole same = sym same ∙ ap (λ (l : List FontDict). Ok l) (append-nil front)

pub map_after : {A B : Type 0} (f : A → B) (xs : List A) (x : A) → map f (xs ++ x ∷ []) ≡ map f xs ++ f x ∷ []
map_after f [] x = refl
map_after f (y ∷ xs) x = ap (λ l. f y ∷ l) (map_after f xs x)

-- ---- the whole
module _ (cff : Cff) (texts : List (List ℕ)) where
  abbrev parts_with : List ℕ → Select → Result Parts Error
  parts_with used select =
      ok_or (string_at cff.strings copyright_operator cff.top) SubsetError >>= λ copyright. ok_or (string_at cff.strings font_name_operator cff.top) SubsetError >>= λ font_name.
      ok_or (string_at cff.strings notice_operator cff.top) SubsetError >>= λ notice. new_font_dicts cff used >>= λ dicts. Ok (all_parts cff copyright notice font_name dicts select texts)

  by_numbers : (numbers : List ℕ) → parts_by cff numbers texts ≡ (counted_font_dicts numbers >>= λ used. parts_with used (select_by cff used numbers))
  unfolding parts_by
  by_numbers numbers = refl

same_parts : (s : Table) (t : TableParts) (select : Select) → IsSource s → t.names.now ≡ (cff_of s).names → map number_of t.matrix ≡ new_top_matrix (shown s.top.font_matrix) → map number_of t.font_box ≡ new_box (shown s.top.font_bbox)
    → select_of_table t.numbers ≡ select → all_parts (cff_of s) (string_view t.copyright) (string_view t.notice) (string_view t.font_name) (map font_dict_view t.font_dicts.items) select [] ≡ parts_view t []
same_parts s t select is names matrix box chosen =
    let m : unwrap_or (last_of font_matrix_operator (cff_of s).top) thousandth_matrix ≡ map number_of t.matrix = sym (matrix ∙ ap new_top_matrix (matrix_shown s is)) in
    let b : unwrap_or (last_of font_box_operator (cff_of s).top) zero_box ≡ map number_of t.font_box = sym (box ∙ ap new_box (box_shown s is)) in
    rw (m, b, ← names, ← chosen) refl

module _ (cff : Cff) (copyright font_name notice : Option FontString) (dicts : List FontDict) (select : Select) where
  from_pieces : (a b c : Result (Option FontString) Error) (d : Result (List FontDict) Error) → a ≡ Ok copyright → b ≡ Ok font_name → c ≡ Ok notice → d ≡ Ok dicts
      → (a >>= λ copyright. b >>= λ font_name. c >>= λ notice. d >>= λ dicts. Ok (all_parts cff copyright notice font_name dicts select [])) ≡ Ok (all_parts cff copyright notice font_name dicts select [])
  from_pieces a b c d e f g h = rw (e, f, g, h) refl

pub parts_made : (s : Table) (t : TableParts) (numbers used : List ℕ) → IsSource s
    → ok_or (string_at (cff_of s).strings copyright_operator (cff_of s).top) SubsetError ≡ Ok (string_view t.copyright)
    → ok_or (string_at (cff_of s).strings font_name_operator (cff_of s).top) SubsetError ≡ Ok (string_view t.font_name)
    → ok_or (string_at (cff_of s).strings notice_operator (cff_of s).top) SubsetError ≡ Ok (string_view t.notice)
    → counted_font_dicts numbers ≡ Ok used → new_font_dicts (cff_of s) used ≡ Ok (map font_dict_view t.font_dicts.items) → select_of_table t.numbers ≡ select_by (cff_of s) used numbers
    → t.names.now ≡ (cff_of s).names → map number_of t.matrix ≡ new_top_matrix (shown s.top.font_matrix) → map number_of t.font_box ≡ new_box (shown s.top.font_bbox)
    → parts_by (cff_of s) numbers [] ≡ Ok (parts_view t [])
parts_made s t numbers used is a b c u d chosen names matrix box =
    by_numbers (cff_of s) [] numbers
    ∙ ap (λ (r : Result (List ℕ) Error). r >>= λ us. parts_with (cff_of s) [] us (select_by (cff_of s) us numbers)) u
    ∙ from_pieces (cff_of s) (string_view t.copyright) (string_view t.font_name) (string_view t.notice) (map font_dict_view t.font_dicts.items) (select_by (cff_of s) used numbers) _ _ _ _ a b c d
    ∙ ap (λ (p : Parts). Ok p) (same_parts s t (select_by (cff_of s) used numbers) is names matrix box chosen)

numbers_mapped : (used : List ℕ) (kept : List KeptGlyph) → map (λ (k : KeptGlyph). unwrap_or (index_of used k.number) 0) kept ≡ map (new_index used) (numbers_of kept)
numbers_mapped used [] = refl
numbers_mapped used (k ∷ kept) = ap (λ (l : List ℕ). unwrap_or (index_of used k.number) 0 ∷ l) (numbers_mapped used kept)

by_glyphs : (cff : Cff) (kept : List KeptGlyph) → parts_for cff kept ≡ parts_with cff (texts_of kept) (used_numbers kept) (new_select cff (used_numbers kept) kept)
unfolding parts_for
by_glyphs cff kept = refl

select_is : (cff : Cff) (used : List ℕ) (kept : List KeptGlyph) → new_select cff used kept ≡ select_by cff used (numbers_of kept)
select_is cff used kept = rw (numbers_mapped used kept) refl

checked_then : {A B : Type 0} (b : Bool) (e : Error) (x : A) (f : A → Result B Error) → (check b e (Ok x) >>= f) ≡ check b e (f x)
checked_then true e x f = refl
checked_then false e x f = refl

by_count : (cff : Cff) (texts : List (List ℕ)) (numbers : List ℕ)
    → parts_by cff numbers texts ≡ check (nat_lt (length (used_font_dicts numbers)) 256) OverflowError (parts_with cff texts (used_font_dicts numbers) (select_by cff (used_font_dicts numbers) numbers))
unfolding counted_font_dicts
by_count cff texts numbers =
    by_numbers cff texts numbers ∙ checked_then (nat_lt (length (used_font_dicts numbers)) 256) OverflowError (used_font_dicts numbers) (λ used. parts_with cff texts used (select_by cff used numbers))

-- the parts depend on the glyphs by the numbers of their font dicts and by their charstrings
pub parts_for_is : (cff : Cff) (kept : List KeptGlyph) → AllByRecursion (λ (k : KeptGlyph). k.number < 256) kept → counted_parts cff kept ≡ parts_by cff (numbers_of kept) (texts_of kept)
unfolding counted_parts
parts_for_is cff kept all =
    ap (check (nat_lt (length (used_numbers kept)) 256) OverflowError) (by_glyphs cff kept)
    ∙ ap (λ (us : List ℕ). check (nat_lt (length us) 256) OverflowError (parts_with cff (texts_of kept) us (new_select cff us kept))) (inserted_are kept all)
    ∙ ap (λ (s : Select). check (nat_lt (length (used_font_dicts (numbers_of kept))) 256) OverflowError (parts_with cff (texts_of kept) (used_font_dicts (numbers_of kept)) s)) (select_is cff (used_font_dicts (numbers_of kept)) kept)
    ∙ sym (by_count cff (texts_of kept) (numbers_of kept))

abbrev with_texts : List (List ℕ) → Parts → Parts
with_texts texts p = record p { char_strings = texts }

filled : (cff : Cff) (texts : List (List ℕ)) (a b c : Result (Option FontString) Error) (d : Result (List FontDict) Error) (select : Select)
    → (a >>= λ copyright. b >>= λ font_name. c >>= λ notice. d >>= λ dicts. Ok (all_parts cff copyright notice font_name dicts select texts))
    ≡ ((a >>= λ copyright. b >>= λ font_name. c >>= λ notice. d >>= λ dicts. Ok (all_parts cff copyright notice font_name dicts select [])) >>= λ p. Ok (with_texts texts p))
filled cff texts (Ok a) (Ok b) (Ok c) (Ok d) select = refl
filled cff texts (Ok a) (Ok b) (Ok c) (Err e) select = refl
filled cff texts (Ok a) (Ok b) (Err e) d select = refl
filled cff texts (Ok a) (Err e) c d select = refl
filled cff texts (Err e) b c d select = refl

filled_by : (cff : Cff) (texts : List (List ℕ)) (numbers : List ℕ) (u : Result (List ℕ) Error)
    → (u >>= λ used. parts_with cff texts used (select_by cff used numbers)) ≡ ((u >>= λ used. parts_with cff [] used (select_by cff used numbers)) >>= λ p. Ok (with_texts texts p))
filled_by cff texts numbers (Ok used) =
    filled cff texts (ok_or (string_at cff.strings copyright_operator cff.top) SubsetError) (ok_or (string_at cff.strings font_name_operator cff.top) SubsetError)
    (ok_or (string_at cff.strings notice_operator cff.top) SubsetError) (new_font_dicts cff used) (select_by cff used numbers)
filled_by cff texts numbers (Err e) = refl

-- the charstrings are put in
pub parts_filled : (cff : Cff) (numbers : List ℕ) (texts : List (List ℕ)) → parts_by cff numbers texts ≡ (parts_by cff numbers [] >>= λ p. Ok (record p { char_strings = texts }))
unfolding parts_by
parts_filled cff numbers texts = filled_by cff texts numbers (counted_font_dicts numbers)

-- ---- there are at most 255
counted_few : (numbers used : List ℕ) → counted_font_dicts numbers ≡ Ok used → length used < 256
unfolding counted_font_dicts
counted_few numbers used e =
    let a = passed (nat_lt (length (used_font_dicts numbers)) 256) OverflowError (Ok (used_font_dicts numbers)) used e in
    omega (arith, ltb-true (length (used_font_dicts numbers)) 256 a.0, ap length (same_Ok _ _ a.1))

pub few_dicts : (cff : Cff) (numbers : List ℕ) (p : Parts) → parts_by cff numbers [] ≡ Ok p → length p.font_dicts < 256
unfolding parts_by
few_dicts cff numbers p e =
    let u = bind_ok (counted_font_dicts numbers) _ p e in
    let a = bind_ok (ok_or (string_at cff.strings copyright_operator cff.top) SubsetError) _ p u.1.1 in
    let b = bind_ok (ok_or (string_at cff.strings font_name_operator cff.top) SubsetError) _ p a.1.1 in
    let c = bind_ok (ok_or (string_at cff.strings notice_operator cff.top) SubsetError) _ p b.1.1 in
    let d = bind_ok (new_font_dicts cff u.0) _ p c.1.1 in
    omega (arith, counted_few numbers u.0 u.1.0, length-dicts cff u.0 d.0 d.1.0, ap (λ (q : Parts). length q.font_dicts) (same_Ok _ _ d.1.1))
