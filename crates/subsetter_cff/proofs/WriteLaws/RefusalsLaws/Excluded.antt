-- Where the plain way makes a table, its source has no fault.
use Rattle.std.proofs.Common.{◌≡◌, ℕ, zero, suc, ◌<◌, ◌≤◌, true, false, List, [], ◌∷◌, ◌++◌, length, Option, Some, ap, arith, ◌∙◌, sym, subst, ◌+◌, ◌^◌}
use Rattle.std.specs.Prelude.{Contains, slice_get, slice_index, slice_index_or, unwrap_or, Ok}
use Rattle.std.specs.List.{flat_map, concat}
use Rattle.std.proofs.lemmas.Option.{none-some, same_Some}
use Rattle.subsetter_base.specs.declared.error.Error.{Error}
use Rattle.subsetter_cffdata.specs.Numerals.Numbers.{Number}
use Rattle.subsetter_cffdata.specs.Dicts.Dict.{Entry}
use Rattle.subsetter_type2.specs.Runs.Machine.{Outcome, Stops}
use Rattle.subsetter_type2.specs.Flat.{bytes_of}
use Rattle.subsetter_cff.specs.Read.Entries.Lookup.{last_of}
use Rattle.subsetter_cff.specs.Read.Strings.{string_at}
use Rattle.subsetter_cff.specs.Read.Cff.{Cff, char_string, is_cid_keyed}
use Rattle.subsetter_cff.specs.Read.FdArray.FontDicts.{font_dict_number}
use Rattle.subsetter_cff.specs.Read.FdArray.Private.{private_of, own_entries, private_entries}
use Rattle.subsetter_cff.specs.Read.Entries.Matrices.{own_matrix, font_dict_name, thousandth_matrix, zero_box}
use Rattle.subsetter_cff.specs.Read.Entries.Operators.{copyright_operator, notice_operator, font_name_operator, font_matrix_operator}
use Rattle.subsetter_cff.specs.Write.Laying.Layout.{FontDict, Parts, char_strings_offset}
use Rattle.subsetter_cff.specs.Write.Made.{new_matrix, MadeGlyph, IsMade}
use Rattle.subsetter_cff.specs.Read.Opened.{opened}
use Rattle.subsetter_cff.specs.Write.NewDicts.WrittenNumbers.{any_long, entry_numbers, font_dict_numbers}
use Rattle.subsetter_cff.specs.Write.Plain.{KeptGlyph, kept_glyph, used_numbers, parts_for, parts_of, cff_subset}
use Rattle.subsetter_cff.specs.Read.Fault.{HasGlyphFault, no_number, no_font_dict, no_char_string, stops, bad_name, HasStringFault, bad_copyright, bad_notice, bad_font_name}
use Rattle.subsetter_cff.specs.Write.Refusals.LimitFault.{AreDrafted, HasLimitFault, many_font_dicts, long_matrix, long_box, long_own_matrix, long_private, large_index, large_offset, dict_numbers, written_indexes, written_offsets}
use Rattle.subsetter_cff.specs.Write.Refusals.CffFault.{HasCffFault, in_opening, in_glyph, in_strings, in_limits, AnsweredExcludes}
use Rattle.subsetter_cff.proofs.ReadLaws.Results.{bind_ok, same_Ok}
use Rattle.subsetter_cff.proofs.ReadLaws.EntriesLaws.EntrySound.{clash, contradiction}
use Rattle.subsetter_cff.proofs.ReadLaws.Soundness.{opened_is_sound}
use Rattle.subsetter_cff.proofs.WriteLaws.SourceFits.{short_front, short_back}
use Rattle.subsetter_cff.proofs.WriteLaws.GlyphsLaws.KeptSteps.{kept_at, glyph_steps}
use Rattle.subsetter_cff.proofs.WriteLaws.NewDictsLaws.FontDictSteps.{length-dicts}
use Rattle.subsetter_cff.proofs.WriteLaws.LayingLaws.MadeOf.{Answer, answer_steps, parts_steps, parts_made}
use Rattle.subsetter_cff.proofs.WriteLaws.Headline.{opened_is}
use Rattle.subsetter_cff.proofs.ReadLaws.StringFaults.{none_named}
use Rattle.subsetter_cff.proofs.WriteLaws.LayingLaws.Largest.{contained, indexes_small, offsets_small}
use Rattle.subsetter_cff.proofs.WriteLaws.NewDictsLaws.UsedByGlyphs.{used_are}

-- ---- a place in a list
index_is : (gs : List ℕ) (i g : ℕ) → i < length gs → slice_index_or gs i g ≡ g → slice_index gs i ≡ g
index_is [] i g lt is = absurd (omega arith)
index_is (h ∷ gs) zero g lt is = is
index_is (h ∷ gs) (suc i) g lt is = index_is gs i g (omega arith) is

-- ---- a kept glyph
flat_stops : (o : Outcome) (e : Error) (bytes : List ℕ) → o ≡ Stops e → bytes_of o ≡ Ok bytes → ⊥
flat_stops o e bytes is ok = let no = ap bytes_of (sym is) in absurd (let h = sym ok ∙ ap bytes_of is in cc)

no_glyph_fault : (cff : Cff) (tokens depth g : ℕ) (k : KeptGlyph) (p : Parts) (i : ℕ) (e : Error) → kept_glyph cff tokens depth g ≡ Ok k → MadeGlyph cff tokens depth g p i → HasGlyphFault cff tokens depth g e → ⊥
unfolding font_dict_name private_of
no_glyph_fault cff tokens depth g k p i _ kept made (no_number cid none) = clash (font_dict_number cff g) k.number (rw cid at (glyph_steps cff tokens depth g k kept).number_is) none
no_glyph_fault cff tokens depth g k p i _ kept made (no_font_dict cid none) = none-some made.private_dict (rw (cid, none) at made.private_dict_is)
no_glyph_fault cff tokens depth g k p i _ kept made (no_char_string none) = clash (char_string cff g) made.charstring made.charstring_is none
no_glyph_fault cff tokens depth g k p i _ kept made (stops private bytes e private_is bytes_is out) =
    let same_private : private ≡ made.private_dict = same_Some _ _ (sym private_is ∙ made.private_dict_is) in
    let same_bytes : bytes ≡ made.charstring = same_Some _ _ (sym bytes_is ∙ made.charstring_is) in
    flat_stops _ e made.bytes (rw (same_private, same_bytes) at out) made.flat
no_glyph_fault cff tokens depth g k p i _ kept made (bad_name dict cid dict_is no_name) =
    none-some made.font_dict.name (sym (none_named cff.strings font_name_operator dict no_name) ∙ rw (cid, dict_is) at made.name)

no_string_fault : (cff : Cff) (tokens depth : ℕ) (glyphs : List ℕ) (p : Parts) (e : Error) → IsMade cff tokens depth glyphs p → HasStringFault cff e → ⊥
no_string_fault cff tokens depth glyphs p _ made (bad_copyright f) = clash (string_at cff.strings copyright_operator cff.top) p.copyright made.copyright (none_named cff.strings copyright_operator cff.top f)
no_string_fault cff tokens depth glyphs p _ made (bad_notice f) = clash (string_at cff.strings notice_operator cff.top) p.notice made.notice (none_named cff.strings notice_operator cff.top f)
no_string_fault cff tokens depth glyphs p _ made (bad_font_name f) = clash (string_at cff.strings font_name_operator cff.top) p.font_name made.font_name (none_named cff.strings font_name_operator cff.top f)

-- ---- the limits
at_short : (fs : List FontDict) (j : ℕ) (f : FontDict) → slice_get fs j ≡ Some f → any_long (flat_map font_dict_numbers fs) ≡ false → any_long (font_dict_numbers f) ≡ false
at_short [] j f at short = absurd (none-some f at)
at_short (h ∷ fs) zero f at short = subst (λ (x : FontDict). any_long (font_dict_numbers x) ≡ false) (same_Some _ _ at) (short_front (font_dict_numbers h) (flat_map font_dict_numbers fs) short)
at_short (h ∷ fs) (suc j) f at short = at_short fs j f at (short_back (font_dict_numbers h) (flat_map font_dict_numbers fs) short)

module _ (cff : Cff) (tokens depth : ℕ) (glyphs : List ℕ) (p : Parts) (ok : parts_of cff tokens depth glyphs ≡ Ok p) where
  answer : Answer cff tokens depth glyphs p
  answer = answer_steps cff tokens depth glyphs p ok

  is_made : IsMade cff tokens depth glyphs p
  is_made = parts_made cff tokens depth glyphs p ok

  -- a kept glyph's place
  glyph_at : (g : ℕ) (inside : Contains glyphs g) → MadeGlyph cff tokens depth g p inside.0
  glyph_at g inside = subst (λ h. MadeGlyph cff tokens depth h p inside.0) (index_is glyphs inside.0 g inside.1 inside.2) (is_made.made inside.0 inside.1)

  kept_of : (g : ℕ) → Contains glyphs g → (k : KeptGlyph) × (kept_glyph cff tokens depth g ≡ Ok k)
  kept_of g inside =
      let at = kept_at cff tokens depth glyphs answer.kept inside.0 answer.kept_are inside.1 in
      (at.one, subst (λ h. kept_glyph cff tokens depth h ≡ Ok at.one) (index_is glyphs inside.0 g inside.1 inside.2) at.made)

  rest_short : any_long (p.box ++ flat_map font_dict_numbers p.font_dicts) ≡ false
  rest_short = short_back p.matrix (p.box ++ flat_map font_dict_numbers p.font_dicts) answer.limits.short

  -- of a kept glyph's font dict
  dict_short : (g : ℕ) (inside : Contains glyphs g) → any_long (font_dict_numbers (glyph_at g inside).font_dict) ≡ false
  dict_short g inside = let m = glyph_at g inside in at_short p.font_dicts _ m.font_dict m.font_dict_is (short_back p.box (flat_map font_dict_numbers p.font_dicts) rest_short)

  own_is_short : (g : ℕ) (own m : List Number) → Contains glyphs g → own_matrix cff g ≡ Some (Some own) → new_matrix (last_of font_matrix_operator cff.top) (Some own) ≡ Some m → any_long m ≡ false
  own_is_short g own m inside own_is is =
      let made = glyph_at g inside in
      let same_own : Some own ≡ made.own = same_Some _ _ (sym own_is ∙ made.own_is) in
      let same : made.font_dict.matrix ≡ m = same_Some _ _ (sym made.matrix ∙ rw same_own at is) in
      subst (λ xs. any_long xs ≡ false) same (short_front made.font_dict.matrix (entry_numbers made.font_dict.private) (dict_short g inside))

  entries_short : (g : ℕ) (es : List Entry) → Contains glyphs g → private_entries cff g ≡ Some es → any_long (entry_numbers es) ≡ false
  entries_short g es inside is =
      let made = glyph_at g inside in
      let same : own_entries made.private_dict ≡ es = same_Some _ _ (rw made.private_dict_is at is) in
      subst (λ xs. any_long (entry_numbers xs) ≡ false) (made.private ∙ same) (short_back made.font_dict.matrix (entry_numbers made.font_dict.private) (dict_short g inside))

  same_parts : (q : Parts) → AreDrafted cff tokens depth glyphs q → q ≡ p
  same_parts q laid =
      let same : laid.kept ≡ answer.kept = same_Ok _ _ (sym laid.kept_are ∙ answer.kept_are) in
      same_Ok _ _ (sym laid.parts_are ∙ ap (parts_for cff) same ∙ answer.made)

  few_dicts : is_cid_keyed cff ≡ true → length (dict_numbers cff glyphs) ≤ 255
  few_dicts cid =
      let s = parts_steps cff answer.kept p answer.made in
      omega (arith, answer.limits.font_dict_count, ap length (used_are cff tokens depth glyphs answer.kept cid answer.kept_are), length-dicts cff (used_numbers answer.kept) s.dicts s.dicts_are, ap (λ (q : Parts). length q.font_dicts) s.parts_are)

  no_limit_fault : (e : Error) → HasLimitFault cff tokens depth glyphs e → ⊥
  no_limit_fault _ (many_font_dicts cid many) = absurd (omega (arith, many, few_dicts cid))
  no_limit_fault _ (long_matrix xs is six long) =
      let same : p.matrix ≡ xs = is_made.matrix ∙ ap (λ (o : Option (List Number)). unwrap_or o thousandth_matrix) is in
      contradiction (any_long xs) long (subst (λ ys. any_long ys ≡ false) same (short_front p.matrix (p.box ++ flat_map font_dict_numbers p.font_dicts) answer.limits.short))
  no_limit_fault _ (long_box xs is four long) =
      let same : p.box ≡ xs = is_made.box ∙ ap (λ (o : Option (List Number)). unwrap_or o zero_box) is in
      contradiction (any_long xs) long (subst (λ ys. any_long ys ≡ false) same (short_front p.box (flat_map font_dict_numbers p.font_dicts) rest_short))
  no_limit_fault _ (long_own_matrix g own m inside own_is six is long) = contradiction (any_long m) long (own_is_short g own m inside own_is is)
  no_limit_fault _ (long_private g es inside is long) = contradiction (any_long (entry_numbers es)) long (entries_short g es inside is)
  no_limit_fault _ (large_index q items laid inside large) =
      let small = contained (λ is. length (concat is) + 1 < 2 ^ 32) (written_indexes p) items (indexes_small p answer.limits) (subst (λ r. Contains (written_indexes r) items) (same_parts q laid) inside) in
      absurd (omega (arith, large, small))
  no_limit_fault _ (large_offset q n laid inside large) =
      let small = contained (λ m. m ≤ char_strings_offset p) (written_offsets p) n (offsets_small p) (subst (λ r. Contains (written_offsets r) n) (same_parts q laid) inside) in
      absurd (omega (arith, large, small, answer.limits.offset))

-- ---- the whole
excluded : (bytes : List ℕ) (tokens depth : ℕ) (glyphs : List ℕ) (source : Cff) (p : Parts) (e : Error) → opened bytes ≡ Ok source → parts_of source tokens depth glyphs ≡ Ok p → HasCffFault bytes tokens depth glyphs e → ⊥
excluded bytes tokens depth glyphs source p e openable parts (in_opening fault) = opened_is_sound bytes source e openable fault
excluded bytes tokens depth glyphs source p e openable parts (in_glyph cff g is inside fault) =
    let same : cff ≡ source = same_Some _ _ (sym is ∙ opened_is bytes source openable) in
    let k = kept_of source tokens depth glyphs p parts g inside in
    no_glyph_fault source tokens depth g k.0 p inside.0 e k.1 (glyph_at source tokens depth glyphs p parts g inside) (subst (λ c. HasGlyphFault c tokens depth g e) same fault)
excluded bytes tokens depth glyphs source p e openable parts (in_strings cff is fault) =
    let same : cff ≡ source = same_Some _ _ (sym is ∙ opened_is bytes source openable) in
    no_string_fault source tokens depth glyphs p e (is_made source tokens depth glyphs p parts) (subst (λ c. HasStringFault c e) same fault)
excluded bytes tokens depth glyphs source p e openable parts (in_limits cff is fault) =
    let same : cff ≡ source = same_Some _ _ (sym is ∙ opened_is bytes source openable) in
    no_limit_fault source tokens depth glyphs p parts e (subst (λ c. HasLimitFault c tokens depth glyphs e) same fault)

pub answered_excludes : AnsweredExcludes
unfolding cff_subset
answered_excludes bytes tokens depth glyphs out e ok fault =
    let a = bind_ok (opened bytes) _ out ok in
    let b = bind_ok (parts_of a.0 tokens depth glyphs) _ out a.1.1 in
    excluded bytes tokens depth glyphs a.0 b.0 e a.1.0 b.1.0 fault
