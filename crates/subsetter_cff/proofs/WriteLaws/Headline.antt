-- Where the plain way makes a table, that table read afresh is a subset of the source.
use Rattle.std.proofs.Common.{◌≡◌, ℕ, ◌<◌, ◌≤◌, Bool, true, false, cond, eqb, ltb, List, [], ◌∷◌, ◌++◌, map, length, Option, Some, None, refl, ap, arith, inl, inr, ◌∙◌, sym, subst}
use Rattle.std.specs.Prelude.{slice_get, unwrap_or, Ok}
use Rattle.std.specs.Option.{option_and_then, ok_or}
use Rattle.std.specs.List.{AllByRecursion, flat_map}
use Rattle.std.proofs.lemmas.Bool.{cases_Bool}
use Rattle.std.proofs.lemmas.Option.{none-some, same_Some, slice_get_within}
use Rattle.std.proofs.lemmas.List.{length-map}
use Rattle.subsetter_base.specs.Indexes.{index_of}
use Rattle.subsetter_base.specs.declared.error.Error.TheVariants.{MalformedFont, CFFError}
use Rattle.subsetter_cffdata.specs.Numerals.Numbers.{Number}
use Rattle.subsetter_cffdata.specs.Dicts.Dict.{Entry}
use Rattle.subsetter_cff.specs.Read.Entries.Lookup.{last_of}
use Rattle.subsetter_cff.specs.Read.Strings.{FontString, string_at}
use Rattle.subsetter_cff.specs.Read.Cff.{Cff, cff_parts, char_strings, is_cid_keyed}
use Rattle.subsetter_base.specs.Bytes.{first_number}
use Rattle.subsetter_cff.specs.Read.FdArray.FontDicts.{font_dicts, font_dict_select}
use Rattle.subsetter_cff.specs.Read.FdArray.Private.{Private, no_private, private_at}
use Rattle.subsetter_cff.specs.Read.Entries.Operators.{subroutines_operator, copyright_operator, notice_operator, font_name_operator, font_matrix_operator, font_box_operator}
use Rattle.subsetter_cff.specs.Read.Entries.Matrices.{thousandth_matrix, zero_box}
use Rattle.subsetter_cff.specs.Write.Laying.Layout.{FontDict, Parts}
use Rattle.subsetter_cff.specs.Write.Laying.Fits.{FitsString, FitsFontDict, FitsSelect, Fits}
use Rattle.subsetter_cff.specs.Read.Opened.{sound_font_dicts, opened_cid, opened_parts, opened}
use Rattle.subsetter_cff.specs.Write.NewDicts.WrittenNumbers.{any_long, entry_numbers, font_dict_numbers}
use Rattle.subsetter_cff.specs.Write.Plain.{with_number, KeptGlyph, kept_glyphs, used_numbers, SourceDict, as_source_dict, source_dict, new_font_dict, new_font_dicts, new_select, new_parts, parts_of, cff_subset}
use Rattle.subsetter_cff.specs.Write.Headline.{AnsweredIsSubset}
use Rattle.subsetter_cff.proofs.ReadLaws.Results.{bind_ok, same_Ok, some_of, passed, number_there}
use Rattle.subsetter_cffdata.proofs.Options.{step}
use Rattle.subsetter_cff.proofs.ReadLaws.FdArrayLaws.Locals.{names_again}
use Rattle.subsetter_cff.proofs.WriteLaws.NewDictsLaws.FontDicts.{all_at}
use Rattle.subsetter_cff.proofs.ReadLaws.SourceBytes.{Fitting, AreWritable, last_of_read, without_fits, none_first, all_map, Source, source_of, top_fits, font_dicts_fit, private_fits}
use Rattle.subsetter_cff.proofs.WriteLaws.SourceFits.{short_front, short_back, numbers_fit, thousandth_read, box_read, or_else_read, new_matrix_read, string_fits, private_fit}
use Rattle.subsetter_cff.proofs.WriteLaws.GlyphsLaws.KeptSteps.{length-kept}
use Rattle.subsetter_cff.proofs.WriteLaws.NewDictsLaws.FontDictSteps.{length-dicts, dict_made, dict_steps}
use Rattle.subsetter_cff.proofs.WriteLaws.LayingLaws.MadeOf.{parts_steps, Limits, answer_steps, parts_made}
use Rattle.subsetter_cff.proofs.WriteLaws.Keeping.{made_is_subset}

-- ---- font dicts
record DictFits (dict : SourceDict) : Type 0 where
  private : Fitting dict.private.entries
  own : (xs : List Number) → dict.own ≡ Some xs → AreWritable xs
  name : (t : Option FontString) → dict.name ≡ Some t → FitsString t

dict_found : (cff : Cff) (d : List Entry) (dict : SourceDict) → Fitting d → as_source_dict cff d ≡ Some dict → DictFits dict
dict_found cff d dict fits e =
    let s = step (private_at cff.bytes d) _ dict e in
    subst DictFits (same_Some _ _ s.1.1) (record { private = private_fits cff.bytes d s.0 s.1.0; own = λ xs h. last_of_read font_matrix_operator d xs fits h; name = λ t h. string_fits cff.strings (last_of font_name_operator d) t h })

or_none : (o : Option Private) → ((p : Private) → o ≡ Some p → Fitting p.entries) → Fitting (unwrap_or o no_private).entries
or_none None h = tt
or_none (Some p) h = h p refl

dict_fits : (cff : Cff) (number : ℕ) (dict : SourceDict) → source_dict cff number ≡ Some dict → DictFits dict
dict_fits cff number dict e =
    elim (cases_Bool (is_cid_keyed cff)) [
      | inl cid ↦ (let a = step (option_and_then (λ dicts. slice_get dicts number) (font_dicts cff)) (as_source_dict cff) dict (rw cid at e) in
          let b = step (font_dicts cff) (λ dicts. slice_get dicts number) a.0 a.1.0 in
          dict_found cff a.0 dict (all_at Fitting b.0 number a.0 (font_dicts_fit cff b.0 b.1.0) b.1.1) a.1.1)
      | inr sid ↦ subst DictFits (same_Some _ _ (rw sid at e)) (record {
        private = or_none (private_at cff.bytes cff.top) (λ p h. private_fits cff.bytes cff.top p h);
        own = λ xs h. absurd (none-some xs h);
        name = λ t h. subst FitsString (same_Some _ _ h) tt;
      })
    ]

new_dict_fits : (cff : Cff) (number : ℕ) (f : FontDict) → new_font_dict cff number ≡ Ok f → any_long (font_dict_numbers f) ≡ false → FitsFontDict f
new_dict_fits cff number f e short =
    let s = dict_made cff number f e in
    let d = dict_fits cff number s.dict s.dict_is in
    record {
      matrix = numbers_fit f.matrix (new_matrix_read (last_of font_matrix_operator cff.top) s.dict.own f.matrix d.own s.matrix) (short_front f.matrix (entry_numbers f.private) short);
      private = private_fit f.private (subst Fitting (sym s.private) (without_fits subroutines_operator s.dict.private.entries d.private)) (short_back f.matrix (entry_numbers f.private) short);
      no_subroutines = rw s.private (none_first subroutines_operator s.dict.private.entries);
      name = d.name f.name s.name;
    }

more_fit : (cff : Cff) (n : ℕ) (ns : List ℕ) (first : FontDict) (rest dicts : List FontDict) → new_font_dict cff n ≡ Ok first → ((short : any_long (flat_map font_dict_numbers rest) ≡ false) → AllByRecursion FitsFontDict rest)
    → first ∷ rest ≡ dicts → any_long (flat_map font_dict_numbers dicts) ≡ false → AllByRecursion FitsFontDict dicts
more_fit cff n ns first rest dicts made more same short =
    let e : any_long (font_dict_numbers first ++ flat_map font_dict_numbers rest) ≡ false = subst (λ ds. any_long (flat_map font_dict_numbers ds) ≡ false) (sym same) short in
    subst (AllByRecursion FitsFontDict) same (new_dict_fits cff n first made (short_front (font_dict_numbers first) (flat_map font_dict_numbers rest) e), more (short_back (font_dict_numbers first) (flat_map font_dict_numbers rest) e))

new_dicts_fit : (cff : Cff) (ns : List ℕ) (dicts : List FontDict) → new_font_dicts cff ns ≡ Ok dicts → any_long (flat_map font_dict_numbers dicts) ≡ false → AllByRecursion FitsFontDict dicts
new_dicts_fit cff [] dicts e short = rw (← same_Ok _ _ e) tt
new_dicts_fit cff (n ∷ ns) dicts e short =
    let s = dict_steps cff n ns dicts e in
    more_fit cff n ns s.0 s.1.1.0 dicts s.1.0 (λ h. new_dicts_fit cff ns s.1.1.0 s.1.1.1.0 h) s.1.1.1.1 short

-- ---- the numbers of font dicts
some_with : (n : ℕ) (ms : List ℕ) → 1 ≤ length (with_number n ms)
some_with n [] = omega arith
some_with n (m ∷ ms) =
    elim (cases_Bool (ltb n m)) [
      | inl less ↦ rw less (omega arith)
      | inr other ↦ elim (cases_Bool (eqb n m)) [
        | inl same ↦ rw (other, same) (omega arith)
        | inr neither ↦ rw (other, neither) (omega arith)
      ]
    ]

some_used : (kept : List KeptGlyph) → 1 ≤ length kept → 1 ≤ length (used_numbers kept)
some_used [] some = absurd (omega arith)
some_used (k ∷ kept) some = some_with k.number (used_numbers kept)

place_inside : (used : List ℕ) (n : ℕ) (o : Option ℕ) → index_of used n ≡ o → 1 ≤ length used → unwrap_or o 0 < length used
place_inside used n None e some = omega (arith, some)
place_inside used n (Some i) e some = slice_get_within used i n (number_there used n i e)

select_fits : (cff : Cff) (kept : List KeptGlyph) (count : ℕ) → 1 ≤ length kept → count ≡ length (used_numbers kept) → FitsSelect (length (map (λ (k : KeptGlyph). k.bytes) kept)) count (new_select cff (used_numbers kept) kept)
select_fits cff kept count some is =
    let used = used_numbers kept in
    elim (cases_Bool (is_cid_keyed cff)) [
      | inl cid ↦ rw cid (
        length-map kept (λ (k : KeptGlyph). unwrap_or (index_of used k.number) 0) ∙ sym (length-map kept (λ (k : KeptGlyph). k.bytes)),
        all_map (λ n. n < count) (λ (k : KeptGlyph). unwrap_or (index_of used k.number) 0) kept (λ k. rw is (place_inside used k.number (index_of used k.number) refl (some_used kept some))),
      )
      | inr sid ↦ rw (sid, is) (some_used kept some)
    ]

-- ---- all that is laid out
parts_fit : (bytes : List ℕ) (cff : Cff) (tokens depth : ℕ) (glyphs : List ℕ) (kept : List KeptGlyph) (copyright notice font_name : Option FontString) (dicts : List FontDict)
    → Source bytes cff → 1 ≤ length glyphs → length glyphs ≤ 65535 → kept_glyphs cff tokens depth glyphs ≡ Ok kept
    → string_at cff.strings copyright_operator cff.top ≡ Some copyright → string_at cff.strings notice_operator cff.top ≡ Some notice → string_at cff.strings font_name_operator cff.top ≡ Some font_name
    → new_font_dicts cff (used_numbers kept) ≡ Ok dicts → Limits (new_parts cff copyright notice font_name dicts (new_select cff (used_numbers kept) kept) kept)
    → Fits (new_parts cff copyright notice font_name dicts (new_select cff (used_numbers kept) kept) kept)
parts_fit bytes cff tokens depth glyphs kept copyright notice font_name dicts source some few are a b c d limits =
    let p = new_parts cff copyright notice font_name dicts (new_select cff (used_numbers kept) kept) kept in
    let top = top_fits bytes cff.top source.top in
    let names = names_again bytes cff.names source.names in
    let count = length-kept cff tokens depth glyphs kept are in
    let chars = length-map kept (λ (k : KeptGlyph). k.bytes) in
    let following = short_back p.matrix _ limits.short in
    record {
      name_entries = names.0;
      names = names.1;
      copyright = string_fits cff.strings (last_of copyright_operator cff.top) copyright a;
      notice = string_fits cff.strings (last_of notice_operator cff.top) notice b;
      font_name = string_fits cff.strings (last_of font_name_operator cff.top) font_name c;
      matrix = numbers_fit p.matrix (or_else_read (last_of font_matrix_operator cff.top) thousandth_matrix (λ xs h. last_of_read font_matrix_operator cff.top xs top h) thousandth_read) (short_front p.matrix _ limits.short);
      box = numbers_fit p.box (or_else_read (last_of font_box_operator cff.top) zero_box (λ xs h. last_of_read font_box_operator cff.top xs top h) box_read) (short_front p.box _ following);
      font_dicts = new_dicts_fit cff (used_numbers kept) dicts d (short_back p.box _ following);
      select = select_fits cff kept (length dicts) (omega (arith, some, count)) (length-dicts cff (used_numbers kept) dicts d);
      string_count = limits.string_count;
      font_dict_count = limits.font_dict_count;
      some_glyph = omega (arith, some, count, chars);
      glyph_count = omega (arith, few, count, chars);
      char_strings_size = limits.char_strings_size;
      offset = limits.offset;
    }

pub answer_fits : (bytes : List ℕ) (cff : Cff) (tokens depth : ℕ) (glyphs : List ℕ) (p : Parts) → Source bytes cff → 1 ≤ length glyphs → length glyphs ≤ 65535 → parts_of cff tokens depth glyphs ≡ Ok p → Fits p
answer_fits bytes cff tokens depth glyphs p source some few e =
    let a = answer_steps cff tokens depth glyphs p e in
    let s = parts_steps cff a.kept p a.made in
    subst Fits s.parts_are (parts_fit bytes cff tokens depth glyphs a.kept s.copyright s.notice s.font_name s.dicts source some few a.kept_are s.copyright_is s.notice_is s.font_name_is s.dicts_are (subst Limits (sym s.parts_are) a.limits))

-- ---- the source that was opened
same_cid : (c cff : Cff) → opened_cid c ≡ Ok cff → c ≡ cff
unfolding opened_cid
same_cid c cff e =
    let a = bind_ok (ok_or (font_dicts c) MalformedFont) _ cff e in
    let b = bind_ok (ok_or (font_dict_select c) MalformedFont) _ cff a.1.1 in
    same_Ok _ _ (passed (sound_font_dicts c.bytes a.0) MalformedFont _ cff b.1.1).1

same_source : (c cff : Cff) (cid : Bool) → cond cid (opened_cid c) (Ok c) ≡ Ok cff → c ≡ cff
same_source c cff true e = same_cid c cff e
same_source c cff false e = same_Ok _ _ e

pub opened_is : (bytes : List ℕ) (cff : Cff) → opened bytes ≡ Ok cff → cff_parts bytes ≡ Some cff
unfolding opened opened_parts
opened_is bytes cff e =
    let a = bind_ok (ok_or (first_number bytes) MalformedFont) _ cff e in
    let b = passed (eqb a.0 1) CFFError _ cff a.1.1 in
    let c = bind_ok (ok_or (cff_parts bytes) MalformedFont) _ cff b.1 in
    let d = bind_ok (ok_or (char_strings c.0) MalformedFont) _ cff c.1.1 in
    let f = passed _ MalformedFont _ cff d.1.1 in
    some_of (cff_parts bytes) MalformedFont c.0 c.1.0 ∙ ap Some (same_source c.0 cff (is_cid_keyed c.0) f.1)

pub answered_is_subset : AnsweredIsSubset
unfolding cff_subset
answered_is_subset bytes tokens depth glyphs out deep some few e =
    let a = bind_ok (opened bytes) _ out e in
    let b = bind_ok (parts_of a.0 tokens depth glyphs) _ out a.1.1 in
    let source = opened_is bytes a.0 a.1.0 in
    let fits = answer_fits bytes a.0 tokens depth glyphs b.0 (source_of bytes a.0 source) some few b.1.0 in
    let subset = made_is_subset a.0 tokens depth glyphs b.0 deep (parts_made a.0 tokens depth glyphs b.0 b.1.0) fits in
    record { source = a.0; source_is = source; copy = subset.0; copy_is = ap cff_parts (sym (same_Ok _ _ b.1.1)) ∙ subset.1.0; kept = subset.1.1 }
