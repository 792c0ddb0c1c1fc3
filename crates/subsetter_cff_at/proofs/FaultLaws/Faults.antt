-- What is refused has a fault of that name.
use Rattle.std.proofs.Common.{◌≡◌, ℕ, zero, suc, ◌+◌, ◌^◌, ℤ, Bool, true, false, cond, ltb, List, [], ◌∷◌, ◌++◌, length, map, Option, Some, None, refl, ap, arith, ◌∙◌, sym, subst, inl, inr}
use Rattle.std.specs.Prelude.{is_some, nat_lt, slice_get, unwrap_or, Result, Ok, Err}
use Rattle.std.specs.List.{concat, flat_map, list_any}
use Rattle.std.specs.Option.{ok_or}
use Rattle.std.proofs.lemmas.Bool.{ltb-false, false≢true}
use Rattle.std.proofs.lemmas.Option.{none-some, same_Some}
use Rattle.subsetter_base.specs.Bytes.{◌>>=◌}
use Rattle.subsetter_base.specs.declared.error.Error.{Error}
use Rattle.subsetter_base.specs.declared.error.Error.TheVariants.{MalformedFont, OverflowError}
use Rattle.subsetter_cffdata.specs.Reals.Decimals.{real_text, decimal_digits}
use Rattle.subsetter_cffdata.specs.Dicts.Dict.{entries}
use Rattle.subsetter_cffdata.specs.Numerals.Numbers.{Number, Integer}
use Rattle.subsetter_cff.specs.Read.Entries.Lookup.{last_of}
use Rattle.subsetter_cff.specs.Read.Entries.Matrices.{thousandth_matrix, unit_matrix}
use Rattle.subsetter_cff.specs.Read.Entries.Operators.{char_strings_operator, font_dicts_operator, font_dict_select_operator}
use Rattle.subsetter_cff.specs.Write.Laying.Layout.{Parts, char_strings_offset}
use Rattle.subsetter_cff.specs.Write.Plain.{limited}
use Rattle.subsetter_cff.specs.Write.NewDicts.WrittenNumbers.{any_long, entry_numbers, font_dict_numbers, written_numbers}
use Rattle.subsetter_cff.proofs.ReadLaws.Refusals.{bind_err, none_of, failed, none_or}
use Rattle.subsetter_cff.proofs.ReadLaws.Results.{same_Ok, some_of}
use Rattle.subsetter_cff.proofs.WriteLaws.RefusalsLaws.LimitFaults.{in_either}
use Rattle.subsetter_cff2.specs.Cff2.{Cff2, wide_index, named_index, optional_offset, store_by, cff2_parts, parts_by}
use Rattle.subsetter_cff2.specs.Front2.{front_at}
use Rattle.subsetter_cff2.specs.Made2.{NewDict, new_dict, new_dicts, new_font_dict, new_parts}
use Rattle.subsetter_cff2.specs.Operators2.{store_operator}
use Rattle.subsetter_cff2.specs.Selection.UsedDicts.{counted_dicts, index_in, used_dicts}
use Rattle.subsetter_cff2.specs.Variation.{Variation, optional_variation}
use Rattle.subsetter_cff2.proofs.MadeFits.{new_dict_is_placed}
use Rattle.subsetter_cff_at.specs.Fault.{HasOpeningFault, HasGlyphFault, HasFault, RefusedHasFault, bad_front, bad_subroutines, bad_char_strings, bad_font_dicts, bad_store_offset, bad_store, bad_select, bad_matrix, bad_region, long_private, many_font_dicts, long_matrix, large_char_strings, large_offset, none_requested, in_opening, in_glyph, in_limits}
use Rattle.subsetter_cff_at.specs.Plain.{dict_bound, dict_number, numbers_from, present, placed_text, texts_from, all_filled, Drawn, drawn, drawn_box, Opened, opened, parts_of, some_requested, made_table}
use Rattle.subsetter_cff_at.specs.Request.{Request}
use Rattle.subsetter_cff_at.specs.Units.{top_matrix}
use Rattle.subsetter_cff_at.proofs.Found.{dict_at, dict_steps}
use Rattle.subsetter_cff_at.proofs.Promised.{open_steps}
use Rattle.subsetter_cff_at.proofs.DrawnGlyphs.{drawn_steps, number_place}
use Rattle.subsetter_cff_at.proofs.FaultLaws.GlyphFaults.{number_refused, dict_refused, RefusedAt, numbers_refused, dicts_refused, UserOf, user_of, TextRefused, texts_refused, in_dicts, text_refused}

-- ---- the table as a whole
parts_refused : (bytes : List ℕ) (r : Request) (top : List ℕ) (following : ℕ) → front_at bytes ≡ Some (top, following) → parts_by bytes (length r.at) (entries top) following ≡ None → HasOpeningFault bytes r MalformedFont
unfolding parts_by
parts_refused bytes r top following front e =
    elim (none_or (wide_index bytes following) _ e) [
      | inl none ↦ bad_subroutines top following front none
      | inr a ↦ elim (none_or (named_index bytes (last_of char_strings_operator (entries top))) _ a.1.1) [
        | inl none ↦ bad_char_strings top following front none
        | inr b ↦ elim (none_or (named_index bytes (last_of font_dicts_operator (entries top))) _ b.1.1) [
          | inl none ↦ bad_font_dicts top following front none
          | inr c ↦ elim (none_or (optional_offset (last_of store_operator (entries top))) _ c.1.1) [
            | inl none ↦ bad_store_offset top following front none
            | inr d ↦ elim (none_or (store_by bytes (length r.at) d.0) _ d.1.1) [
              | inl none ↦ bad_store top following d.0 front d.1.0 none
              | inr f ↦ elim (none_or (optional_offset (last_of font_dict_select_operator (entries top))) _ f.1.1) [
                | inl none ↦ bad_select top following front none
                | inr g ↦ absurd (none-some _ (sym g.1.1))
              ]
            ]
          ]
        ]
      ]
    ]

table_refused : (bytes : List ℕ) (r : Request) → cff2_parts bytes (length r.at) ≡ None → HasOpeningFault bytes r MalformedFont
unfolding cff2_parts
table_refused bytes r e =
    elim (none_or (front_at bytes) _ e) [
      | inl none ↦ bad_front none
      | inr a ↦ parts_refused bytes r a.0.0 a.0.1 a.1.0 a.1.1
    ]

opening_refused : (bytes : List ℕ) (r : Request) (e : Error) → opened bytes r ≡ Err e → HasOpeningFault bytes r e
unfolding opened
opening_refused bytes r e h =
    let F = HasOpeningFault bytes r in
    elim (bind_err (ok_or (cff2_parts bytes (length r.at)) MalformedFont) _ e h) [
      | inl a ↦ (let n = none_of (cff2_parts bytes (length r.at)) MalformedFont e a in subst F n.1 (table_refused bytes r n.0))
      | inr a ↦ (
          let cff = some_of (cff2_parts bytes (length r.at)) MalformedFont a.0 a.1.0 in
          elim (bind_err (ok_or (top_matrix a.0 r.units) MalformedFont) _ e a.1.1) [
            | inl b ↦ (let n = none_of (top_matrix a.0 r.units) MalformedFont e b in subst F n.1 (bad_matrix a.0 cff n.0))
            | inr b ↦ elim (bind_err (ok_or (optional_variation a.0.store r.at) MalformedFont) _ e b.1.1) [
              | inl c ↦ (let n = none_of (optional_variation a.0.store r.at) MalformedFont e c in subst F n.1 (bad_region a.0 cff n.0))
              | inr c ↦ absurd cc
            ]
          ]
          )
    ]

-- ---- the sizes
not_false : (b : Bool) → cond b false true ≡ false → b ≡ true
not_false true e = refl
not_false false e = absurd cc

given : (o : Option (List Number)) (d : List Number) → any_long d ≡ false → any_long (unwrap_or o d) ≡ true → (xs : List Number) × ((o ≡ Some xs) × (any_long xs ≡ true))
given None d short e = absurd (false≢true (sym short ∙ e))
given (Some xs) d short e = (xs, (refl, e))

thousandth_short : any_long thousandth_matrix ≡ false
unfolding real_text decimal_digits
thousandth_short = refl

box_short : (box : List ℤ) → any_long (map Integer box) ≡ false
box_short [] = refl
box_short (z ∷ box) = box_short box

no_error : (p : Parts) (e : Error) → ◌≡◌ {A = Result Parts Error} (Ok p) (Err e) → ⊥
no_error p e h = cc

dict_long : (cff : Cff2) (v : Option Variation) (tokens depth : ℕ) (glyphs : List (Option ℕ)) (n : ℕ) (d : NewDict) → UserOf cff glyphs n → new_dict cff v n ≡ Ok d → any_long (font_dict_numbers (new_font_dict d)) ≡ true
    → RefusedAt glyphs (λ glyph advance. HasGlyphFault cff v tokens depth glyph advance OverflowError)
dict_long cff v tokens depth glyphs n d u made e =
    let p = new_dict_is_placed cff v n d made in
    elim (in_either unit_matrix (entry_numbers (new_font_dict d).private) e) [
      | inl matrix ↦ absurd (false≢true matrix)
      | inr private ↦ record { glyph = u.glyph; advance = u.advance; is = u.is; fault = long_private n p.source p.at_location u.number_is p.source_is p.at_location_is (rw (← p.entries_are) private) }
    ]

dicts_long : (cff : Cff2) (v : Option Variation) (tokens depth : ℕ) (glyphs : List (Option ℕ)) (ns : List ℕ) (dicts : List NewDict) → ((i n : ℕ) → slice_get ns i ≡ Some n → UserOf cff glyphs n) → new_dicts cff v ns ≡ Ok dicts
    → any_long (flat_map font_dict_numbers (map new_font_dict dicts)) ≡ true → RefusedAt glyphs (λ glyph advance. HasGlyphFault cff v tokens depth glyph advance OverflowError)
dicts_long cff v tokens depth glyphs [] dicts users are e = absurd (false≢true (ap (λ (ds : List NewDict). any_long (flat_map font_dict_numbers (map new_font_dict ds))) (same_Ok _ _ are) ∙ e))
dicts_long cff v tokens depth glyphs (n ∷ ns) dicts users are e =
    let s = dict_steps cff v n ns dicts are in
    let long : any_long (font_dict_numbers (new_font_dict s.first) ++ flat_map font_dict_numbers (map new_font_dict s.rest)) ≡ true = subst (λ (ds : List NewDict). any_long (flat_map font_dict_numbers (map new_font_dict ds)) ≡ true) (sym s.same) e in
    elim (in_either (font_dict_numbers (new_font_dict s.first)) (flat_map font_dict_numbers (map new_font_dict s.rest)) long) [
      | inl first ↦ dict_long cff v tokens depth glyphs n s.first (users 0 n refl) s.first_is first
      | inr rest ↦ dicts_long cff v tokens depth glyphs ns s.rest (λ i m. users (suc i) m) s.rest_are rest
    ]

module _ (bytes : List ℕ) (r : Request) (tokens depth : ℕ) (o : Opened) (open_is : opened bytes r ≡ Ok o) where
  glyph_fault : (e : Error) → RefusedAt r.glyphs (λ glyph advance. HasGlyphFault o.cff o.variation tokens depth glyph advance e) → HasFault bytes r tokens depth e
  glyph_fault e f = in_glyph o f.glyph f.advance open_is f.is f.fault

  refused_with : (F : ℕ → ℕ → Type 0) (e : Error) → RefusedAt r.glyphs F → ((glyph advance : ℕ) → slice_get r.glyphs glyph ≡ Some (Some advance) → F glyph advance → HasGlyphFault o.cff o.variation tokens depth glyph advance e) → HasFault bytes r tokens depth e
  refused_with F e f g = in_glyph o f.glyph f.advance open_is f.is (g f.glyph f.advance f.is f.fault)

  text_fault : (e : Error) (numbers : List (Option ℕ)) (used : List ℕ) (dicts : List NewDict) → numbers_from o.cff 0 r.glyphs ≡ Ok numbers → counted_dicts (dict_bound o.cff) (present numbers) ≡ Ok used → new_dicts o.cff o.variation used ≡ Ok dicts
      → (glyph advance : ℕ) → slice_get r.glyphs glyph ≡ Some (Some advance) → TextRefused o.cff o.variation tokens depth dicts (map (index_in used) numbers) e glyph (0 + glyph) advance → HasGlyphFault o.cff o.variation tokens depth glyph advance e
  text_fault e numbers used dicts numbers_are used_are dicts_are glyph advance is t =
      let f = number_place o.cff r.glyphs numbers used numbers_are used_are glyph advance is in
      let d = dict_at o.cff o.variation used dicts f.index f.number dicts_are f.used_at in
      let here : t.index ≡ f.index = same_Some _ _ (sym t.place_at ∙ f.place_at) in
      text_refused o.cff o.variation tokens depth glyph advance f.number d.dict e f.number_is d.is
      (in_dicts o.cff o.variation tokens depth dicts t.index glyph advance d.dict e (ap (slice_get dicts) here ∙ d.at) (ap (λ (n : ℕ). placed_text o.cff o.variation tokens depth dicts t.index n advance) (let z : glyph ≡ 0 + glyph = omega arith in z) ∙ t.refused))

  drawn_refused : (e : Error) → drawn o.cff o.variation tokens depth r.glyphs ≡ Err e → HasFault bytes r tokens depth e
  unfolding drawn counted_dicts
  drawn_refused e h =
      elim (bind_err (numbers_from o.cff 0 r.glyphs) _ e h) [
        | inl a ↦ refused_with _ e (numbers_refused o.cff 0 r.glyphs e a) (λ glyph advance is f. number_refused o.cff o.variation tokens depth glyph advance e (ap (dict_number o.cff) (let z : glyph ≡ 0 + glyph = omega arith in z) ∙ f))
        | inr a ↦ elim (bind_err (counted_dicts (dict_bound o.cff) (present a.0)) _ e a.1.1) [
          | inl b ↦ elim (failed (nat_lt (length (used_dicts (dict_bound o.cff) (present a.0))) 256) OverflowError e _ b) [
            | inl over ↦ subst (HasFault bytes r tokens depth) over.1 (in_limits o open_is (many_font_dicts a.0 a.1.0 (ltb-false (length (used_dicts (dict_bound o.cff) (present a.0))) 256 over.0)))
            | inr more ↦ absurd (let bad : ◌≡◌ {A = Result (List ℕ) Error} (Ok (used_dicts (dict_bound o.cff) (present a.0))) (Err e) = more.1 in cc)
          ]
          | inr b ↦ elim (bind_err (new_dicts o.cff o.variation b.0) _ e b.1.1) [
            | inl c ↦ (
                let d = dicts_refused o.cff o.variation b.0 e c in
                let u = user_of o.cff r.glyphs a.0 b.0 d.at d.number a.1.0 b.1.0 d.is in
                in_glyph o u.glyph u.advance open_is u.is (dict_refused o.cff o.variation tokens depth u.glyph u.advance d.number e u.number_is d.refused)
                )
            | inr c ↦ elim (bind_err (texts_from o.cff o.variation tokens depth c.0 (map (index_in b.0) a.0) 0 r.glyphs) _ e c.1.1) [
              | inl t ↦ refused_with _ e (texts_refused o.cff o.variation tokens depth c.0 e (map (index_in b.0) a.0) 0 r.glyphs t) (text_fault e a.0 b.0 c.0 a.1.0 b.1.0 c.1.0)
              | inr t ↦ absurd cc
            ]
          ]
        ]
      ]

  made_refused : (d : Drawn) (e : Error) → drawn o.cff o.variation tokens depth r.glyphs ≡ Ok d → parts_of o d ≡ Err e → HasFault bytes r tokens depth e
  unfolding limited
  made_refused d e are h =
      let p = new_parts o.matrix (drawn_box d) d.dicts d.places (all_filled d.texts) in
      let F = HasFault bytes r tokens depth in
      let s = drawn_steps o.cff o.variation tokens depth r.glyphs d are in
      let opens = open_steps bytes r o open_is in
      elim (bind_err (limited p) _ e h) [
        | inl a ↦ elim (failed (cond (any_long (written_numbers p)) false true) OverflowError e _ a) [
          | inl over ↦ subst F over.1 (elim (in_either p.matrix (p.box ++ flat_map font_dict_numbers p.font_dicts) (not_false (any_long (written_numbers p)) over.0)) [
            | inl matrix ↦ (let x = given o.matrix thousandth_matrix thousandth_short matrix in in_limits o open_is (long_matrix x.0 (opens.matrix_is ∙ ap Some x.1.0) x.1.1))
            | inr more ↦ elim (in_either p.box (flat_map font_dict_numbers p.font_dicts) more) [
              | inl box ↦ absurd (false≢true (sym (box_short (drawn_box d)) ∙ box))
              | inr dicts ↦ glyph_fault OverflowError (dicts_long o.cff o.variation tokens depth r.glyphs s.used d.dicts (λ i n. user_of o.cff r.glyphs s.numbers s.used i n s.numbers_are s.used_are) s.dicts_are dicts)
            ]
          ])
          | inr h2 ↦ elim (failed (ltb (length (concat p.char_strings) + 1) (2 ^ 32)) OverflowError e _ h2.1) [
            | inl over ↦ subst F over.1 (in_limits o open_is (large_char_strings d are (ltb-false (length (concat p.char_strings) + 1) (2 ^ 32) over.0)))
            | inr h3 ↦ elim (failed (ltb (char_strings_offset p) (2 ^ 31)) OverflowError e _ h3.1) [
              | inl over ↦ subst F over.1 (in_limits o open_is (large_offset d o.matrix are opens.matrix_is (ltb-false (char_strings_offset p) (2 ^ 31) over.0)))
              | inr h4 ↦ absurd (no_error p e h4.1)
            ]
          ]
        ]
        | inr a ↦ absurd (let bad = a.1.1 in cc)
      ]

-- ---- all
some_in : (glyphs : List (Option ℕ)) (i advance : ℕ) → slice_get glyphs i ≡ Some (Some advance) → list_any is_some glyphs ≡ true
some_in [] i advance at = absurd (none-some (Some advance) at)
some_in (Some a ∷ glyphs) i advance at = refl
some_in (None ∷ glyphs) zero advance at = absurd (none-some advance (same_Some None (Some advance) at))
some_in (None ∷ glyphs) (suc i) advance at = some_in glyphs i advance at

pub is_requested : (glyphs : List (Option ℕ)) (i advance : ℕ) → slice_get glyphs i ≡ Some (Some advance) → some_requested glyphs ≡ true
unfolding some_requested
is_requested glyphs i advance at = some_in glyphs i advance at

pub refused_stands : RefusedHasFault
unfolding made_table
refused_stands bytes r tokens depth e h =
    let F = HasFault bytes r tokens depth in
    elim (failed (some_requested r.glyphs) MalformedFont e _ h) [
      | inl none ↦ subst F none.1 (none_requested (λ glyph advance at. false≢true (sym none.0 ∙ is_requested r.glyphs glyph advance at)))
      | inr a ↦ elim (bind_err (opened bytes r) (λ o. drawn o.cff o.variation tokens depth r.glyphs >>= parts_of o) e a.1) [
        | inl b ↦ in_opening (opening_refused bytes r e b)
        | inr b ↦ elim (bind_err (drawn b.0.cff b.0.variation tokens depth r.glyphs) (parts_of b.0) e b.1.1) [
          | inl c ↦ drawn_refused bytes r tokens depth b.0 b.1.0 e c
          | inr c ↦ made_refused bytes r tokens depth b.0 b.1.0 c.0 e c.1.0 c.1.1
        ]
      ]
    ]
