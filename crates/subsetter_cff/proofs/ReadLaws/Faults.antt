-- The plain way refuses a source just where it has a fault.
use Rattle.std.proofs.Common.{◌≡◌, ℕ, Bool, true, false, cond, eqb, ltb, ◌&&◌, List, [], ◌∷◌, length, Option, Some, None, refl, ap, arith, inl, inr, ◌⊎◌, ◌∙◌, sym, subst}
use Rattle.std.specs.Prelude.{Contains, Ok, Err}
use Rattle.std.specs.Option.{ok_or, option_and_then}
use Rattle.std.proofs.lemmas.Bool.{false≢true, eqb-false, ltb-false}
use Rattle.std.proofs.lemmas.Option.{none-some, same_Some}
use Rattle.subsetter_base.specs.Bytes.{◌>>=◌, first_number}
use Rattle.subsetter_base.specs.declared.error.Error.{Error}
use Rattle.subsetter_base.specs.declared.error.Error.TheVariants.{MalformedFont, CFFError}
use Rattle.subsetter_cffdata.specs.Dicts.Dict.{Entry}
use Rattle.subsetter_cffdata.specs.Indexes.Index.{index_at}
use Rattle.subsetter_cff.specs.Read.Cff.{Cff, past_header, name_index, string_index, subroutine_index, top_dict, before, name_bytes, cff_parts, char_strings, is_cid_keyed}
use Rattle.subsetter_cff.specs.Read.FdArray.FontDicts.{font_dicts, font_dict_select}
use Rattle.subsetter_cff.specs.Read.Entries.OperandDemands.{top_demands, font_dict_demands}
use Rattle.subsetter_cff.specs.Read.Opened.{check, all_meet, all_lead, sound_font_dicts, opened_cid, opened_parts, opened}
use Rattle.subsetter_cff.specs.Read.Fault.{HasFrontFault, short, other_version, bad_names, bad_strings, bad_subroutines, no_top_dict, HasTopFault, wrong_operands, no_char_strings, empty_char_strings, no_font_dicts, no_select, bad_font_dict, bad_private, HasCffOpeningFault, in_front, in_top}
use Rattle.subsetter_cff.proofs.ReadLaws.Results.{some_of}
use Rattle.subsetter_cff.proofs.ReadLaws.Refusals.{bind_err, none_of, failed, none_or, not_both, here, there}
use Rattle.subsetter_cff.proofs.ReadLaws.EntriesLaws.EntryFaults.{all_wrong, all_nowhere}

-- ---- the front
pub no_version : (bytes : List ℕ) → first_number bytes ≡ None → HasFrontFault bytes MalformedFont
no_version [] e = short (omega arith)
no_version (b ∷ bytes) e = absurd (none-some b (sym e))

-- where the name bytes can't be read, the Name INDEX can't
no_names : (start : Option (List ℕ)) (names : Option (List (Option (List ℕ)) × List ℕ)) → (start ≡ None → names ≡ None) → option_and_then (λ s. option_and_then (λ n. Some (before s n.1)) names) start ≡ None → names ≡ None
no_names None names h e = h refl
no_names (Some s) None h e = refl
no_names (Some s) (Some n) h e = absurd (none-some _ (sym e))

name_bytes_none : (bytes : List ℕ) → name_bytes bytes ≡ None → name_index bytes ≡ None
unfolding name_bytes name_index
name_bytes_none bytes e = no_names (past_header bytes) (option_and_then index_at (past_header bytes)) (λ h. rw h refl) e

pub parts_none : (bytes : List ℕ) (b : ℕ) → first_number bytes ≡ Some b → eqb b 1 ≡ true → cff_parts bytes ≡ None → HasFrontFault bytes MalformedFont
unfolding cff_parts
parts_none bytes b is one e =
    elim (none_or (first_number bytes) _ e) [
      | inl none ↦ no_version bytes none
      | inr (v, (v_is, more)) ↦ elim (none_or (name_bytes bytes) _ more) [
        | inl none ↦ bad_names (name_bytes_none bytes none)
        | inr (n, (n_is, more1)) ↦ elim (none_or (top_dict bytes) _ more1) [
          | inl none ↦ no_top_dict none
          | inr (t, (t_is, more2)) ↦ elim (none_or (string_index bytes) _ more2) [
            | inl none ↦ bad_strings none
            | inr (s, (s_is, more3)) ↦ elim (none_or (subroutine_index bytes) _ more3) [
              | inl none ↦ bad_subroutines none
              | inr (r, (r_is, more4)) ↦ absurd (none-some _ (sym (rw (same_Some _ _ (sym v_is ∙ is), one) at more4)))
            ]
          ]
        ]
      ]
    ]

-- ---- the top dict
unsound : (bytes : List ℕ) (dicts : List (List Entry)) → sound_font_dicts bytes dicts ≡ false → (dict : List Entry) × (Contains dicts dict × ((all_meet font_dict_demands dict ≡ false) ⊎ (all_lead bytes dict ≡ false)))
unsound bytes [] e = absurd (false≢true (sym e))
unsound bytes (d ∷ ds) e =
    elim (not_both _ _ e) [
      | inl wrong ↦ (d, (here d ds, inl wrong))
      | inr more ↦ elim (not_both _ _ more) [
        | inl nowhere ↦ (d, (here d ds, inr nowhere))
        | inr rest ↦ (let m = unsound bytes ds rest in (m.0, (there d ds m.0 m.1.0, m.1.1)))
      ]
    ]

as_error : (cff : Cff) (d e : Error) → d ≡ e → HasTopFault cff d → HasTopFault cff e
as_error cff d e same f = subst (HasTopFault cff) same f

cid_refused : (cff : Cff) (e : Error) → is_cid_keyed cff ≡ true → opened_cid cff ≡ Err e → HasTopFault cff e
unfolding opened_cid
cid_refused cff e cid h =
    elim (bind_err (ok_or (font_dicts cff) MalformedFont) _ e h) [
      | inl none ↦ (let n = none_of (font_dicts cff) MalformedFont e none in as_error cff MalformedFont e n.1 (no_font_dicts cid n.0))
      | inr (dicts, (dicts_are, more)) ↦ elim (bind_err (ok_or (font_dict_select cff) MalformedFont) _ e more) [
        | inl none ↦ (let n = none_of (font_dict_select cff) MalformedFont e none in as_error cff MalformedFont e n.1 (no_select cid n.0))
        | inr (select, (select_is, last)) ↦ elim (failed (sound_font_dicts cff.bytes dicts) MalformedFont e (Ok cff) last) [
          | inl bad ↦ (let m = unsound cff.bytes dicts bad.0 in
              let are = some_of (font_dicts cff) MalformedFont dicts dicts_are in
              as_error cff MalformedFont e bad.1 (elim m.1.1 [
                | inl wrong ↦ bad_font_dict dicts m.0 cid are m.1.0 (all_wrong font_dict_demands m.0 wrong)
                | inr nowhere ↦ elim (all_nowhere cff.bytes m.0 nowhere) [
                  | inl wrong ↦ bad_font_dict dicts m.0 cid are m.1.0 wrong
                  | inr fault ↦ bad_private dicts m.0 cid are m.1.0 fault
                ]
              ]))
          | inr done ↦ absurd (let no : Ok cff ≡ Err e = done.1 in cc)
        ]
      ]
    ]

keyed_refused : (cff : Cff) (e : Error) (b : Bool) → is_cid_keyed cff ≡ b → cond b (opened_cid cff) (Ok cff) ≡ Err e → HasTopFault cff e
keyed_refused cff e true cid h = cid_refused cff e cid h
keyed_refused cff e false sid h = absurd cc

no_glyphs : (cs : List (Option (List ℕ))) → ltb 0 (length cs) ≡ false → cs ≡ []
no_glyphs [] e = refl
no_glyphs (c ∷ cs) e = absurd (omega (arith, ltb-false 0 (length (c ∷ cs)) e))

top_refused : (cff : Cff) (e : Error) → (ok_or (char_strings cff) MalformedFont >>= λ charstrings.
    check (all_meet top_demands cff.top && ltb 0 (length charstrings)) MalformedFont (cond (is_cid_keyed cff) (opened_cid cff) (Ok cff))) ≡ Err e → HasTopFault cff e
top_refused cff e h =
    elim (bind_err (ok_or (char_strings cff) MalformedFont) _ e h) [
      | inl none ↦ (let n = none_of (char_strings cff) MalformedFont e none in as_error cff MalformedFont e n.1 (no_char_strings n.0))
      | inr (cs, (cs_are, more)) ↦ elim (failed (all_meet top_demands cff.top && ltb 0 (length cs)) MalformedFont e _ more) [
        | inl bad ↦ as_error cff MalformedFont e bad.1 (elim (not_both _ _ bad.0) [
          | inl wrong ↦ wrong_operands (all_wrong top_demands cff.top wrong)
          | inr empty ↦ empty_char_strings (some_of (char_strings cff) MalformedFont cs cs_are ∙ ap Some (no_glyphs cs empty))
        ])
        | inr on ↦ keyed_refused cff e (is_cid_keyed cff) refl on.1
      ]
    ]

parts_refused : (bytes : List ℕ) (b : ℕ) (e : Error) → first_number bytes ≡ Some b → eqb b 1 ≡ true → opened_parts bytes ≡ Err e → HasCffOpeningFault bytes e
unfolding opened_parts
parts_refused bytes b e is one h =
    elim (bind_err (ok_or (cff_parts bytes) MalformedFont) _ e h) [
      | inl none ↦ (let n = none_of (cff_parts bytes) MalformedFont e none in subst (HasCffOpeningFault bytes) n.1 (in_front (parts_none bytes b is one n.0)))
      | inr (cff, (cff_is, more)) ↦ in_top cff (some_of (cff_parts bytes) MalformedFont cff cff_is) (top_refused cff e more)
    ]

-- what can't be opened has a fault of the name that is answered
pub opening_refused : (bytes : List ℕ) (e : Error) → opened bytes ≡ Err e → HasCffOpeningFault bytes e
unfolding opened
opening_refused bytes e h =
    elim (bind_err (ok_or (first_number bytes) MalformedFont) _ e h) [
      | inl none ↦ (let n = none_of (first_number bytes) MalformedFont e none in subst (HasCffOpeningFault bytes) n.1 (in_front (no_version bytes n.0)))
      | inr (b, (b_is, more)) ↦ (let is = some_of (first_number bytes) MalformedFont b b_is in
          elim (failed (eqb b 1) CFFError e (opened_parts bytes) more) [
            | inl other ↦ subst (HasCffOpeningFault bytes) other.1 (in_front (other_version b is (eqb-false b 1 other.0)))
            | inr one ↦ parts_refused bytes b e is one.0 one.1
          ])
    ]
