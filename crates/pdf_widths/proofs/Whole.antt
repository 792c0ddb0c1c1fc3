-- The table of a subset with other widths, read afresh: the same table with other charstrings.
use Rattle.std.proofs.Common.{◌≡◌, ℕ, zero, suc, ◌+◌, ◌<◌, ◌≤◌, ◌^◌, List, [], ◌∷◌, ◌++◌, length, map, take, get_or, Option, Some, None, option_map, refl, sym, ap, ◌∙◌, subst, arith, append_assoc, length-append}
use Rattle.std.specs.Prelude.{Result, Ok, Err, nat_lt, ◌==◌, slice_get, slice_index}
use Rattle.std.specs.List.{concat}
use Rattle.std.specs.Option.{option_map_or, option_or}
use Rattle.std.specs.Result.{result_ok}
use Rattle.std.proofs.lemmas.Bool.{eqb-true, ltb-true}
use Rattle.std.proofs.lemmas.List.{length-map, take_at}
use Rattle.std.proofs.lemmas.Option.{none-some, same_Some, slice_get-get_or}
use Rattle.subsetter_base.specs.Options.{◌>>=◌}
use Rattle.subsetter_base.specs.declared.error.Error.{Error}
use Rattle.subsetter_base.proofs.Lists.{and_parts}
use Rattle.subsetter_cffdata.specs.Indexes.Index.{index}
use Rattle.subsetter_cffdata.proofs.Options.{step, when}
use Rattle.subsetter_cff.specs.Read.Cff.{Cff, char_string, char_strings}
use Rattle.subsetter_cff.specs.Read.FdArray.Private.{Private, private_of}
use Rattle.subsetter_cff.specs.Read.Opened.{opened}
use Rattle.subsetter_cff.specs.Read.Strings.{standard_strings}
use Rattle.subsetter_cffdata.specs.Dicts.Dict.{Entry}
use Rattle.subsetter_cff.specs.Write.Laying.Fits.{Fits, FitsSelect}
use Rattle.subsetter_cff.specs.Write.Laying.Layout.{FontDict, Offsets, Parts, cff_table, char_strings_offset, charset_bytes, font_dicts_from, font_dicts_of, front as front_bytes, nowhere, privates, select_bytes, strings, table_offsets}
use Rattle.subsetter_cff.specs.Write.Plain.{cff_subset, parts_of}
use Rattle.subsetter_cff.proofs.ReadLaws.Results.{bind_ok, same_Ok}
use Rattle.subsetter_cff.proofs.ReadLaws.SourceBytes.{source_of}
use Rattle.subsetter_cff.proofs.WriteLaws.Headline.{answer_fits, opened_is}
use Rattle.subsetter_cff.proofs.WriteLaws.Keeping.{entry_of_some}
use Rattle.subsetter_cff.proofs.WriteLaws.LayingLaws.Fronts.{laid_out, parts_read}
use Rattle.subsetter_cff.proofs.WriteLaws.LayingLaws.Places.{length-front}
use Rattle.subsetter_cff.proofs.WriteLaws.LayingLaws.Whole.{chars_read, reads_as}
use Rattle.subsetter_cff.proofs.WriteLaws.NewDictsLaws.FontDicts.{offset_operand_is}
use Rattle.subsetter_cff.proofs.WriteLaws.NewDictsLaws.Tops.{char_strings_is, tops}
use Rattle.pdf_widths.specs.Change.{Change, change_of, text}
use Rattle.pdf_widths.specs.Defaults.{defaults_of}
use Rattle.pdf_widths.specs.Laws.{HasWidth, HaveWidths, TablesChangeWidths, changed}
use Rattle.pdf_widths.specs.Tables as tables
use Rattle.pdf_widths.specs.Tables.{are_as_many, change_in, charstring_in, charstrings_from, differs_from, rebuilt, with_widths, with_widths_of}

-- ---- a table by the number of its charstrings: all before them depends on that alone
module _ (p : Parts) where
  abbrev privates_place : ℕ → ℕ
  privates_place n = length (front_bytes p nowhere) + length (charset_bytes n)

  abbrev array_place : ℕ → ℕ
  array_place n = privates_place n + length (privates p.font_dicts) + length (select_bytes n p.select)

  abbrev dicts_bytes : ℕ → List ℕ
  dicts_bytes n = index (font_dicts_from (strings p) (privates_place n) p.font_dicts)

  abbrev places : ℕ → Offsets
  places n = record { charset = length (front_bytes p nowhere); char_strings = array_place n + length (dicts_bytes n); font_dicts = array_place n; select = privates_place n + length (privates p.font_dicts) }

  unfoldable pub in_front : ℕ → List ℕ
  in_front n = front_bytes p (places n) ++ (charset_bytes n ++ (privates p.font_dicts ++ (select_bytes n p.select ++ dicts_bytes n)))

regroup : (a b c d e f : List ℕ) → a ++ (b ++ (c ++ (d ++ (e ++ f)))) ≡ (a ++ (b ++ (c ++ (d ++ e)))) ++ f
regroup a b c d e f = simp append_assoc

table_is : (p : Parts) → cff_table p ≡ in_front p (length p.char_strings) ++ index p.char_strings
unfolding cff_table font_dicts_of in_front
table_is p =
    let n = length p.char_strings in
    regroup (front_bytes p (places p n)) (charset_bytes n) (privates p.font_dicts) (select_bytes n p.select) (dicts_bytes p n) (index p.char_strings)

length-in_front : (p : Parts) → length (in_front p (length p.char_strings)) ≡ char_strings_offset p
unfolding font_dicts_of in_front
length-in_front p =
    let n = length p.char_strings in
    omega (
      arith,
      length-front p (places p n),
      length-append (front_bytes p (places p n)) (charset_bytes n ++ (privates p.font_dicts ++ (select_bytes n p.select ++ dicts_bytes p n))),
      length-append (charset_bytes n) (privates p.font_dicts ++ (select_bytes n p.select ++ dicts_bytes p n)),
      length-append (privates p.font_dicts) (select_bytes n p.select ++ dicts_bytes p n),
      length-append (select_bytes n p.select) (dicts_bytes p n),
    )

-- the same parts with other charstrings
abbrev with_texts : Parts → List (List ℕ) → Parts
with_texts p texts = record p { char_strings = texts }

same_front : (p : Parts) (texts : List (List ℕ)) (n : ℕ) → in_front (with_texts p texts) n ≡ in_front p n
unfolding in_front front_bytes strings
same_front p texts n = refl

same_places : (p : Parts) (texts : List (List ℕ)) (n : ℕ) → places (with_texts p texts) n ≡ places p n
unfolding front_bytes strings
same_places p texts n = refl

places_are : (p : Parts) → table_offsets p ≡ places p (length p.char_strings)
unfolding font_dicts_of
places_are p = refl

module _ (p : Parts) (fits : Fits p) (texts : List (List ℕ)) (count : length texts ≡ length p.char_strings) (size : length (concat texts) + 1 < 2 ^ 32) where
  new_front : in_front (with_texts p texts) (length texts) ≡ in_front p (length p.char_strings)
  new_front = same_front p texts (length texts) ∙ ap (in_front p) count

  new_table : cff_table (with_texts p texts) ≡ in_front p (length p.char_strings) ++ index texts
  new_table = table_is (with_texts p texts) ∙ ap (λ (l : List ℕ). l ++ index texts) new_front

  new_offset : char_strings_offset (with_texts p texts) ≡ char_strings_offset p
  new_offset = sym (length-in_front (with_texts p texts)) ∙ ap length new_front ∙ length-in_front p

  new_offsets : table_offsets (with_texts p texts) ≡ table_offsets p
  new_offsets = places_are (with_texts p texts) ∙ same_places p texts (length texts) ∙ ap (places p) count ∙ sym (places_are p)

  new_strings : strings (with_texts p texts) ≡ strings p
  unfolding strings
  new_strings = refl

  same_tops : (o : Offsets) → tops (with_texts p texts) o ≡ tops p o
  unfolding strings
  same_tops o = refl

  abbrev made : List Entry → List (List ℕ) → Cff
  made top names = record { bytes = cff_table (with_texts p texts); names = p.names; top = top; strings = map Some names; subroutines = [] }

  pub new_laid_out : laid_out (with_texts p texts) ≡ record (laid_out p) { bytes = cff_table (with_texts p texts) }
  new_laid_out =
      ap (λ (top : List Entry). made top (strings (with_texts p texts))) (ap (tops (with_texts p texts)) new_offsets ∙ same_tops (table_offsets p))
      ∙ ap (made (tops p (table_offsets p))) new_strings

  pub new_fits : Fits (with_texts p texts)
  new_fits = record {
    name_entries = fits.name_entries;
    names = fits.names;
    copyright = fits.copyright;
    notice = fits.notice;
    font_name = fits.font_name;
    matrix = fits.matrix;
    box = fits.box;
    font_dicts = fits.font_dicts;
    select = subst (λ (n : ℕ). FitsSelect n (length p.font_dicts) p.select) (sym count) fits.select;
    string_count = subst (λ (l : List (List ℕ)). length l + standard_strings ≤ 65536) (sym new_strings) fits.string_count;
    font_dict_count = fits.font_dict_count;
    some_glyph = omega (arith, count, fits.some_glyph);
    glyph_count = omega (arith, count, fits.glyph_count);
    char_strings_size = size;
    offset = subst (λ (n : ℕ). n < 2 ^ 31) (sym new_offset) fits.offset;
  }

-- ---- the charstrings
texts_length : (cff : Cff) (glyph : ℕ) (advances : List ℕ) (texts : List (List ℕ)) → charstrings_from cff glyph advances ≡ Some texts → length texts ≡ length advances
texts_length cff glyph [] texts e = ap length (sym (same_Some _ _ e))
texts_length cff glyph (a ∷ advances) texts e =
    let first = step (charstring_in cff glyph a) _ texts e in
    let others = step (charstrings_from cff (glyph + 1) advances) _ texts first.1.1 in
    ap length (sym (same_Some _ _ others.1.1)) ∙ ap suc (texts_length cff (glyph + 1) advances others.0 others.1.0)

text_at : (cff : Cff) (glyph i : ℕ) (advances : List ℕ) (texts : List (List ℕ)) → charstrings_from cff glyph advances ≡ Some texts → i < length advances → slice_get texts i ≡ charstring_in cff (glyph + i) (slice_index advances i)
text_at cff glyph i [] texts e lt = absurd (omega arith)
text_at cff glyph zero (a ∷ advances) texts e lt =
    let first = step (charstring_in cff glyph a) _ texts e in
    let others = step (charstrings_from cff (glyph + 1) advances) _ texts first.1.1 in
    let same : glyph ≡ glyph + 0 = omega arith in
    ap (λ (l : List (List ℕ)). slice_get l 0) (sym (same_Some _ _ others.1.1)) ∙ sym first.1.0 ∙ ap (λ (g : ℕ). charstring_in cff g a) same
text_at cff glyph (suc i) (a ∷ advances) texts e lt =
    let first = step (charstring_in cff glyph a) _ texts e in
    let others = step (charstrings_from cff (glyph + 1) advances) _ texts first.1.1 in
    let same : glyph + 1 + i ≡ glyph + suc i = omega arith in
    ap (λ (l : List (List ℕ)). slice_get l (suc i)) (sym (same_Some _ _ others.1.1)) ∙ text_at cff (glyph + 1) i advances others.0 others.1.0 (omega arith) ∙ ap (λ (g : ℕ). charstring_in cff g (slice_index advances i)) same

changed_or : (c : Option Change) (charstring : List ℕ) → option_or (option_map text c) (Some charstring) ≡ Some (option_map_or text c charstring)
changed_or None charstring = refl
changed_or (Some c) charstring = refl

text_is : (cff : Cff) (glyph advance : ℕ) (charstring : List ℕ) (private : Private) → char_string cff glyph ≡ Some charstring → private_of cff glyph ≡ Some private → charstring_in cff glyph advance ≡ Some (changed (defaults_of private.entries) advance charstring)
unfolding change_in
text_is cff glyph advance charstring private e f = rw (e, f) (changed_or (change_of (defaults_of private.entries) advance charstring) charstring)

string_of : (p : Parts) (fits : Fits p) (i : ℕ) (bytes : List ℕ) → slice_get p.char_strings i ≡ Some bytes → char_string (laid_out p) i ≡ Some bytes
string_of p fits i bytes e = rw (chars_read p fits) (entry_of_some p.char_strings i bytes e)

module _ (p : Parts) (fits : Fits p) (advances : List ℕ) (texts : List (List ℕ)) (from : charstrings_from (laid_out p) 0 advances ≡ Some texts)
    (all : length p.char_strings ≡ length advances) (size : length (concat texts) + 1 < 2 ^ 32) where
  texts_count : length texts ≡ length p.char_strings
  texts_count = texts_length (laid_out p) 0 advances texts from ∙ sym all

  has_width : (i : ℕ) → i < length advances → HasWidth (slice_index advances i) (laid_out p) (laid_out (with_texts p texts)) i
  has_width i lt =
      let fits' = new_fits p fits texts texts_count size in
      let old = (reads_as p fits).glyphs i (omega (arith, lt, all)) in
      let now = (reads_as (with_texts p texts) fits').glyphs i (omega (arith, lt, all, texts_count)) in
      let same : now.font_dict ≡ old.font_dict = same_Some _ _ (sym now.font_dict_is ∙ old.font_dict_is) in
      let charstring : List ℕ = get_or p.char_strings i [] in
      let there = string_of p fits i charstring (slice_get-get_or p.char_strings i [] (omega (arith, lt, all))) in
      let zero_on : 0 + i ≡ i = omega arith in
      record {
        private = record { entries = old.font_dict.private; subroutines = [] };
        private_is = old.private;
        same_private = now.private ∙ ap (λ (f : FontDict). Some (record { entries = f.private; subroutines = [] })) same;
        charstring = charstring;
        charstring_is = there;
        new_is = string_of (with_texts p texts) fits' i _ (
            text_at (laid_out p) 0 i advances texts from lt ∙ ap (λ (g : ℕ). charstring_in (laid_out p) g (slice_index advances i)) zero_on
            ∙ text_is (laid_out p) i (slice_index advances i) charstring _ there old.private);
      }

  have_widths : (out : List ℕ) → cff_table (with_texts p texts) ≡ out → HaveWidths advances (cff_table p) out
  have_widths out is =
      let fits' = new_fits p fits texts texts_count size in
      let other = new_laid_out p fits texts texts_count size in
      subst (HaveWidths advances (cff_table p)) is (record {
        one = laid_out p;
        one_is = parts_read p fits;
        other_is = parts_read (with_texts p texts) fits' ∙ ap Some other;
        glyphs = λ i lt. subst (λ (c : Cff). HasWidth (slice_index advances i) (laid_out p) c i) other (has_width i lt);
      })

-- ---- the table
front_is : (p : Parts) → Fits p → tables.front (laid_out p) ≡ Some (take (char_strings_offset p) (cff_table p))
front_is p fits = rw (char_strings_is p (table_offsets p), offset_operand_is (char_strings_offset p) fits.offset) refl

front_taken : (p : Parts) → take (char_strings_offset p) (cff_table p) ≡ in_front p (length p.char_strings)
front_taken p = ap (take (char_strings_offset p)) (table_is p) ∙ take_at (in_front p (length p.char_strings)) (index p.char_strings) (char_strings_offset p) (length-in_front p)

rebuilt_has : (p : Parts) (advances out : List ℕ) → Fits p → length p.char_strings ≡ length advances → rebuilt (laid_out p) advances ≡ Some out → HaveWidths advances (cff_table p) out
unfolding rebuilt
rebuilt_has p advances out fits all e =
    let a = step (tables.front (laid_out p)) _ out e in
    let b = step (charstrings_from (laid_out p) 0 advances) _ out a.1.1 in
    let c = when _ (Some (a.0 ++ index b.0)) out b.1.1 in
    let sizes = and_parts (nat_lt (length b.0) 65536) (nat_lt (length (concat b.0) + 1) (2 ^ 32)) c.0 in
    let size = ltb-true (length (concat b.0) + 1) (2 ^ 32) sizes.1 in
    let start : a.0 ≡ in_front p (length p.char_strings) = same_Some _ _ (sym a.1.0 ∙ front_is p fits) ∙ front_taken p in
    have_widths p fits advances b.0 b.1.0 all size out
    (new_table p fits b.0 (texts_count p fits advances b.0 b.1.0 all size) size ∙ ap (λ (l : List ℕ). l ++ index b.0) (sym start) ∙ same_Some _ _ c.1)

count_is : (p : Parts) → Fits p → option_map_or length (char_strings (laid_out p)) 0 ≡ length p.char_strings
count_is p fits = rw (chars_read p fits) (length-map p.char_strings Some)

-- it is opened as the table that is read
is_read : (p : Parts) (cff : Cff) (r : Result Cff Error) → Fits p → opened (cff_table p) ≡ r → result_ok r ≡ Some cff → cff ≡ laid_out p
is_read p cff (Ok c) fits is e = same_Some _ _ (sym (opened_is (cff_table p) cff (is ∙ ap Ok (same_Some _ _ e))) ∙ parts_read p fits)
is_read p cff (Err why) fits is e = absurd (none-some cff e)

-- of any table that is laid out
pub opened_has : (p : Parts) (advances out : List ℕ) → Fits p → with_widths (cff_table p) advances ≡ Some out → HaveWidths advances (cff_table p) out
unfolding with_widths
opened_has p advances out fits e =
    let o = step (result_ok (opened (cff_table p))) (λ cff. with_widths_of cff advances) out e in
    let here : with_widths_of (laid_out p) advances ≡ Some out = ap (λ (cff : Cff). with_widths_of cff advances) (sym (is_read p o.0 (opened (cff_table p)) fits refl o.1.0)) ∙ o.1.1 in
    let a = when _ (rebuilt (laid_out p) advances) out here in
    let both = and_parts (are_as_many (laid_out p) advances) (differs_from (laid_out p) 0 advances) a.0 in
    let many = and_parts (option_map_or length (char_strings (laid_out p)) 0 == length advances) (nat_lt (length advances) 65536) both.0 in
    rebuilt_has p advances out fits (sym (count_is p fits) ∙ eqb-true _ (length advances) many.0) a.1

pub tables_change : TablesChangeWidths
unfolding cff_subset
tables_change source tokens depth glyphs advances old new some few e w =
    let a = bind_ok (opened source) _ old e in
    let b = bind_ok (parts_of a.0 tokens depth glyphs) _ old a.1.1 in
    let fits = answer_fits source a.0 tokens depth glyphs b.0 (source_of source a.0 (opened_is source a.0 a.1.0)) some few b.1.0 in
    let table : cff_table b.0 ≡ old = same_Ok _ _ b.1.1 in
    subst (λ (l : List ℕ). HaveWidths advances l new) table (opened_has b.0 advances new fits (ap (λ (l : List ℕ). with_widths l advances) table ∙ w))
