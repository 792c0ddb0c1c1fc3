-- The matrices that are made of an opened source have six numbers, and the box four.
use Rattle.std.proofs.Common.{◌≡◌, ℕ, zero, suc, true, cond, List, [], ◌∷◌, length, Option, Some, None, refl, ap, inl, inr, ◌∙◌, sym, subst}
use Rattle.std.specs.Prelude.{slice_get, unwrap_or, Ok}
use Rattle.std.specs.List.{AllByRecursion}
use Rattle.std.specs.Option.{option_and_then}
use Rattle.std.specs.Str.{bytes_eq}
use Rattle.std.proofs.lemmas.Bool.{cases_Bool, eqb-true}
use Rattle.std.proofs.lemmas.Option.{none-some, same_Some}
use Rattle.subsetter_cffdata.specs.Numerals.Numbers.{Number}
use Rattle.subsetter_cffdata.specs.Dicts.Dict.{Entry}
use Rattle.subsetter_cffdata.specs.Numerals.Values.{thousand, by_1000}
use Rattle.subsetter_cff.specs.Read.Entries.Lookup.{last_after, last_of}
use Rattle.subsetter_cff.specs.Read.Cff.{Cff, is_cid_keyed}
use Rattle.subsetter_cff.specs.Read.FdArray.FontDicts.{font_dicts}
use Rattle.subsetter_cff.specs.Read.FdArray.Private.{private_at}
use Rattle.subsetter_cff.specs.Read.Entries.Matrices.{thousandth_matrix, zero_box}
use Rattle.subsetter_cff.specs.Read.Entries.Operators.{font_matrix_operator, font_box_operator}
use Rattle.subsetter_cff.specs.Write.Laying.Layout.{FontDict, Parts}
use Rattle.subsetter_cff.specs.Write.Made.{new_matrix}
use Rattle.subsetter_cff.specs.Read.Opened.{meets, all_meet, sound_font_dicts}
use Rattle.subsetter_cff.specs.Read.Entries.OperandDemands.{Demand, top_demands, font_dict_demands}
use Rattle.subsetter_cff.specs.Write.Plain.{SourceDict, as_source_dict, source_dict, new_font_dicts, parts_of}
use Rattle.subsetter_cffdata.proofs.Options.{step}
use Rattle.subsetter_cff.proofs.WriteLaws.NewDictsLaws.FontDictSteps.{dict_made, dict_steps}
use Rattle.subsetter_cff.proofs.WriteLaws.LayingLaws.MadeOf.{answer_steps, parts_steps}
use Rattle.subsetter_cff.proofs.ReadLaws.Soundness.{TopIsSound}
use Rattle.subsetter_cff.proofs.ReadLaws.EntriesLaws.Holding.{both}
use Rattle.subsetter_cff.proofs.WriteLaws.AgainLaws.Demands.{Shaped}

-- ---- what all entries meet, the last one of an operator meets
meets_one : (ds : List Demand) (i : ℕ) (d : Demand) (e : Entry) → slice_get ds i ≡ Some d → meets ds e ≡ true → cond (bytes_eq e.operator d.operator) (d.holds e.operands) true ≡ true
meets_one [] i d e at all = absurd (none-some d at)
meets_one (c ∷ ds) zero d e at all = subst (λ (x : Demand). cond (bytes_eq e.operator x.operator) (x.holds e.operands) true ≡ true) (same_Some _ _ at) (both _ _ all).0
meets_one (c ∷ ds) (suc i) d e at all = meets_one ds i d e at (both _ _ all).1

last_met : (ds : List Demand) (i : ℕ) (d : Demand) (es : List Entry) (found : Option (List Number)) (xs : List Number) → slice_get ds i ≡ Some d → all_meet ds es ≡ true
    → ((ys : List Number) → found ≡ Some ys → d.holds ys ≡ true) → last_after found d.operator es ≡ Some xs → d.holds xs ≡ true
last_met ds i d [] found xs at all h e = h xs e
last_met ds i d (x ∷ es) found xs at all h e =
    let one = meets_one ds i d x at (both _ _ all).0 in
    elim (cases_Bool (bytes_eq x.operator d.operator)) [
      | inl same ↦ last_met ds i d es (Some x.operands) xs at (both _ _ all).1 (λ ys is. subst (λ zs. d.holds zs ≡ true) (same_Some _ _ is) (rw same at one)) (rw same at e)
      | inr other ↦ last_met ds i d es found xs at (both _ _ all).1 h (rw other at e)
    ]

top_matrix : (es : List Entry) (xs : List Number) → all_meet top_demands es ≡ true → last_of font_matrix_operator es ≡ Some xs → length xs ≡ 6
top_matrix es xs all e = eqb-true (length xs) 6 (last_met top_demands 8 _ es None xs refl all (λ ys h. absurd (none-some ys h)) e)

top_box : (es : List Entry) (xs : List Number) → all_meet top_demands es ≡ true → last_of font_box_operator es ≡ Some xs → length xs ≡ 4
top_box es xs all e = eqb-true (length xs) 4 (last_met top_demands 9 _ es None xs refl all (λ ys h. absurd (none-some ys h)) e)

dict_matrix : (es : List Entry) (xs : List Number) → all_meet font_dict_demands es ≡ true → last_of font_matrix_operator es ≡ Some xs → length xs ≡ 6
dict_matrix es xs all e = eqb-true (length xs) 6 (last_met font_dict_demands 2 _ es None xs refl all (λ ys h. absurd (none-some ys h)) e)

or_else : (o : Option (List Number)) (default : List Number) (n : ℕ) → ((xs : List Number) → o ≡ Some xs → length xs ≡ n) → length default ≡ n → length (unwrap_or o default) ≡ n
or_else None default n h e = e
or_else (Some xs) default n h e = h xs refl

-- ---- the matrix of a new font dict
six_by_1000 : (m n : List Number) → by_1000 m ≡ Some n → length n ≡ 6
unfolding by_1000
six_by_1000 (a ∷ b ∷ c ∷ d ∷ e ∷ f ∷ []) n h =
    let s1 = step (thousand a) _ n h in
    let s2 = step (thousand b) _ n s1.1.1 in
    let s3 = step (thousand c) _ n s2.1.1 in
    let s4 = step (thousand d) _ n s3.1.1 in
    ap length (sym (same_Some _ _ s4.1.1))
six_by_1000 [] n h = absurd (none-some n h)
six_by_1000 (a ∷ []) n h = absurd (none-some n h)
six_by_1000 (a ∷ b ∷ []) n h = absurd (none-some n h)
six_by_1000 (a ∷ b ∷ c ∷ []) n h = absurd (none-some n h)
six_by_1000 (a ∷ b ∷ c ∷ d ∷ []) n h = absurd (none-some n h)
six_by_1000 (a ∷ b ∷ c ∷ d ∷ e ∷ []) n h = absurd (none-some n h)
six_by_1000 (a ∷ b ∷ c ∷ d ∷ e ∷ f ∷ g ∷ m) n h = absurd (none-some n h)

six : (top own : Option (List Number)) (m : List Number) → ((xs : List Number) → own ≡ Some xs → length xs ≡ 6) → new_matrix top own ≡ Some m → length m ≡ 6
six None None m h e = ap length (sym (same_Some _ _ e))
six (Some t) None m h e = ap length (sym (same_Some _ _ e))
six (Some t) (Some o) m h e = ap length (sym (same_Some _ _ e)) ∙ h o refl
six None (Some o) m h e = six_by_1000 o m e

sound_get : (bytes : List ℕ) (ds : List (List Entry)) (i : ℕ) (d : List Entry) → sound_font_dicts bytes ds ≡ true → slice_get ds i ≡ Some d → all_meet font_dict_demands d ≡ true
sound_get bytes [] i d all at = absurd (none-some d at)
sound_get bytes (c ∷ ds) zero d all at = subst (λ x. all_meet font_dict_demands x ≡ true) (same_Some _ _ at) (both _ _ all).0
sound_get bytes (c ∷ ds) (suc i) d all at = sound_get bytes ds i d (both _ _ (both _ _ all).1).1 at

-- the matrix of a source's font dict
own_six : (cff : Cff) → TopIsSound cff → (number : ℕ) (dict : SourceDict) → source_dict cff number ≡ Some dict → (xs : List Number) → dict.own ≡ Some xs → length xs ≡ 6
own_six cff sound number dict e xs is =
    elim (cases_Bool (is_cid_keyed cff)) [
      | inl cid ↦ (let a = step (option_and_then (λ dicts. slice_get dicts number) (font_dicts cff)) (as_source_dict cff) dict (rw cid at e) in
          let b = step (font_dicts cff) (λ dicts. slice_get dicts number) a.0 a.1.0 in
          let c = step (private_at cff.bytes a.0) _ dict a.1.1 in
          let s = sound.cid cid in
          let all = sound_get cff.bytes s.dicts number a.0 s.sound (ap (λ ds. slice_get ds number) (same_Some _ _ (sym s.dicts_are ∙ b.1.0)) ∙ b.1.1) in
          dict_matrix a.0 xs all (ap (λ (d : SourceDict). d.own) (same_Some _ _ c.1.1) ∙ is))
      | inr sid ↦ absurd (none-some xs (ap (λ (d : SourceDict). d.own) (same_Some _ _ (rw sid at e)) ∙ is))
    ]

dicts_six : (cff : Cff) → TopIsSound cff → (ns : List ℕ) (dicts : List FontDict) → new_font_dicts cff ns ≡ Ok dicts → AllByRecursion (λ (f : FontDict). length f.matrix ≡ 6) dicts
dicts_six cff sound [] dicts e = cc
dicts_six cff sound (n ∷ ns) dicts e =
    let s = dict_steps cff n ns dicts e in
    let made = dict_made cff n s.0 s.1.0 in
    subst (AllByRecursion (λ (f : FontDict). length f.matrix ≡ 6)) s.1.1.1.1
    (six (last_of font_matrix_operator cff.top) made.dict.own s.0.matrix (own_six cff sound n made.dict made.dict_is) made.matrix, dicts_six cff sound ns s.1.1.0 s.1.1.1.0)

-- ---- the whole
pub shaped : (cff : Cff) → TopIsSound cff → (tokens depth : ℕ) (glyphs : List ℕ) (p : Parts) → parts_of cff tokens depth glyphs ≡ Ok p → Shaped p
shaped cff sound tokens depth glyphs p e =
    let a = answer_steps cff tokens depth glyphs p e in
    let s = parts_steps cff a.kept p a.made in
    subst Shaped s.parts_are (record {
      matrix = or_else (last_of font_matrix_operator cff.top) thousandth_matrix 6 (λ xs h. top_matrix cff.top xs sound.operands h) refl;
      box = or_else (last_of font_box_operator cff.top) zero_box 4 (λ xs h. top_box cff.top xs sound.operands h) refl;
      font_dicts = dicts_six cff sound _ s.dicts s.dicts_are;
    })
