-- What was opened has no fault of those that are found while it is opened.
use Rattle.std.proofs.Common.{◌≡◌, ◌≢◌, ℕ, zero, suc, ◌<◌, Bool, true, false, cond, eqb, ltb, ◌&&◌, List, [], ◌∷◌, length, Option, Some, None, refl, ap, arith, ◌∙◌, sym, subst}
use Rattle.std.specs.Prelude.{slice_index_or, Ok}
use Rattle.std.specs.Option.{ok_or, option_and_then}
use Rattle.std.proofs.lemmas.Bool.{eqb-true, ltb-true}
use Rattle.std.proofs.lemmas.Option.{none-some, same_Some}
use Rattle.subsetter_base.specs.declared.error.Error.{Error}
use Rattle.subsetter_base.specs.declared.error.Error.TheVariants.{MalformedFont, CFFError}
use Rattle.subsetter_cffdata.specs.Dicts.Dict.{Entry}
use Rattle.subsetter_cff.specs.Read.Cff.{Cff, past_header, name_index, top_index, string_index, subroutine_index, top_dict, name_bytes, cff_parts, char_strings, is_cid_keyed}
use Rattle.subsetter_base.specs.Bytes.{first_number}
use Rattle.subsetter_cff.specs.Read.FdArray.FontDicts.{font_dicts, font_dict_select}
use Rattle.subsetter_cff.specs.Read.Entries.OperandDemands.{top_demands, font_dict_demands}
use Rattle.subsetter_cff.specs.Read.Opened.{all_meet, all_lead, sound_font_dicts, opened_cid, opened_parts, opened}
use Rattle.subsetter_cff.specs.Read.Fault.{HasFrontFault, short, other_version, bad_names, bad_tops, bad_strings, bad_subroutines, no_top_dict, HasTopFault, wrong_operands, no_char_strings, empty_char_strings, no_font_dicts, no_select, bad_font_dict, bad_private, in_front, in_top, HasCffOpeningFault}
use Rattle.subsetter_cff.proofs.ReadLaws.EntriesLaws.Holding.{both}
use Rattle.subsetter_cff.proofs.ReadLaws.Results.{bind_ok, some_of, passed}
use Rattle.subsetter_cffdata.proofs.Options.{step, when}
use Rattle.subsetter_cff.proofs.ReadLaws.EntriesLaws.EntrySound.{clash, contradiction, no_wrong, no_private_fault}

long_enough : (bytes start : List ℕ) → past_header bytes ≡ Some start → length bytes < 3 → ⊥
unfolding past_header
long_enough [] start e lt = none-some start e
long_enough (a ∷ []) start e lt = none-some start e
long_enough (a ∷ b ∷ []) start e lt = none-some start e
long_enough (a ∷ b ∷ c ∷ bytes) start e lt = absurd (omega arith)

-- ---- the front
record FrontIsRead (bytes : List ℕ) : Type 0 where
  version : first_number bytes ≡ Some 1
  start : List ℕ
  start_is : past_header bytes ≡ Some start
  tops : List (Option (List ℕ)) × List ℕ
  tops_are : top_index bytes ≡ Some tops
  names : List (Option (List ℕ)) × List ℕ
  names_are : name_index bytes ≡ Some names
  top : List Entry
  top_is : top_dict bytes ≡ Some top
  strings : List (Option (List ℕ)) × List ℕ
  strings_are : string_index bytes ≡ Some strings
  subroutines : List (Option (List ℕ)) × List ℕ
  subroutines_are : subroutine_index bytes ≡ Some subroutines

front_is_read : (bytes : List ℕ) (cff : Cff) → cff_parts bytes ≡ Some cff → FrontIsRead bytes
unfolding cff_parts name_bytes top_dict
front_is_read bytes cff e =
    let a = step (first_number bytes) _ cff e in
    let b = step (option_and_then _ (past_header bytes)) _ cff a.1.1 in
    let h = step (past_header bytes) _ b.0 b.1.0 in
    let n = step (name_index bytes) _ b.0 h.1.1 in
    let c = step (option_and_then _ (top_index bytes)) _ cff b.1.1 in
    let t = step (top_index bytes) _ c.0 c.1.0 in
    let d = step (string_index bytes) _ cff c.1.1 in
    let f = step (subroutine_index bytes) _ cff d.1.1 in
    let w = when (eqb a.0 1) _ cff f.1.1 in
    record {
      version = a.1.0 ∙ ap Some (eqb-true a.0 1 w.0);
      start = h.0;
      start_is = h.1.0;
      tops = t.0;
      tops_are = t.1.0;
      names = n.0;
      names_are = n.1.0;
      top = c.0;
      top_is = c.1.0;
      strings = d.0;
      strings_are = d.1.0;
      subroutines = f.0;
      subroutines_are = f.1.0;
    }

no_front_fault : (bytes : List ℕ) (e : Error) → FrontIsRead bytes → HasFrontFault bytes e → ⊥
no_front_fault bytes _ r (short lt) = long_enough bytes r.start r.start_is lt
no_front_fault bytes _ r (other_version b is other) = other (same_Some _ _ (sym is ∙ r.version))
no_front_fault bytes _ r (bad_names none) = clash (name_index bytes) r.names r.names_are none
no_front_fault bytes _ r (bad_tops none) = clash (top_index bytes) r.tops r.tops_are none
no_front_fault bytes _ r (bad_strings none) = clash (string_index bytes) r.strings r.strings_are none
no_front_fault bytes _ r (bad_subroutines none) = clash (subroutine_index bytes) r.subroutines r.subroutines_are none
no_front_fault bytes _ r (no_top_dict none) = clash (top_dict bytes) r.top r.top_is none

-- ---- the top dict
sound_at : (bytes : List ℕ) (dicts : List (List Entry)) (k : ℕ) (dict : List Entry) → sound_font_dicts bytes dicts ≡ true → k < length dicts → slice_index_or dicts k dict ≡ dict
    → (all_meet font_dict_demands dict ≡ true) × (all_lead bytes dict ≡ true)
sound_at bytes [] k dict all lt is = absurd (omega arith)
sound_at bytes (d ∷ ds) zero dict all lt is = subst (λ x. (all_meet font_dict_demands x ≡ true) × (all_lead bytes x ≡ true)) is ((both _ _ all).0, (both _ _ (both _ _ all).1).0)
sound_at bytes (d ∷ ds) (suc k) dict all lt is = sound_at bytes ds k dict (both _ _ (both _ _ all).1).1 (omega arith) is

pub record CidIsSound (cff : Cff) : Type 0 where
  pub dicts : List (List Entry)
  pub dicts_are : font_dicts cff ≡ Some dicts
  pub select : font_dict_select cff ≢ None
  pub sound : sound_font_dicts cff.bytes dicts ≡ true

cid_is_sound : (c cff : Cff) → opened_cid c ≡ Ok cff → CidIsSound c
unfolding opened_cid
cid_is_sound c cff e =
    let a = bind_ok (ok_or (font_dicts c) MalformedFont) _ cff e in
    let b = bind_ok (ok_or (font_dict_select c) MalformedFont) _ cff a.1.1 in
    let p = passed (sound_font_dicts c.bytes a.0) MalformedFont _ cff b.1.1 in
    record { dicts = a.0; dicts_are = some_of (font_dicts c) MalformedFont a.0 a.1.0; select = λ none. clash (font_dict_select c) b.0 (some_of (font_dict_select c) MalformedFont b.0 b.1.0) none; sound = p.0 }

pub record TopIsSound (cff : Cff) : Type 0 where
  pub operands : all_meet top_demands cff.top ≡ true
  pub charstrings : List (Option (List ℕ))
  pub charstrings_are : char_strings cff ≡ Some charstrings
  pub some : 0 < length charstrings
  pub cid : is_cid_keyed cff ≡ true → CidIsSound cff

no_top_fault : (cff : Cff) (e : Error) → TopIsSound cff → HasTopFault cff e → ⊥
no_top_fault cff _ s (wrong_operands wrong) = no_wrong top_demands cff.top s.operands wrong
no_top_fault cff _ s (no_char_strings none) = clash (char_strings cff) s.charstrings s.charstrings_are none
no_top_fault cff _ s (empty_char_strings none) = absurd (omega (arith, s.some, ap length (same_Some _ _ (sym s.charstrings_are ∙ none))))
no_top_fault cff _ s (no_font_dicts cid none) = let c = s.cid cid in clash (font_dicts cff) c.dicts c.dicts_are none
no_top_fault cff _ s (no_select cid none) = (s.cid cid).select none
no_top_fault cff _ s (bad_font_dict dicts dict cid are inside wrong) =
    let c = s.cid cid in
    no_wrong font_dict_demands dict (sound_at cff.bytes dicts inside.0 dict (subst (λ ds. sound_font_dicts cff.bytes ds ≡ true) (same_Some _ _ (sym c.dicts_are ∙ are)) c.sound) inside.1 inside.2).0 wrong
no_top_fault cff _ s (bad_private dicts dict cid are inside wrong) =
    let c = s.cid cid in
    no_private_fault cff.bytes dict (sound_at cff.bytes dicts inside.0 dict (subst (λ ds. sound_font_dicts cff.bytes ds ≡ true) (same_Some _ _ (sym c.dicts_are ∙ are)) c.sound) inside.1 inside.2).1 wrong

-- ---- the whole
cid_of_opened : (c cff : Cff) (b : Bool) → is_cid_keyed c ≡ b → cond b (opened_cid c) (Ok c) ≡ Ok cff → is_cid_keyed c ≡ true → CidIsSound c
cid_of_opened c cff true is e cid = cid_is_sound c cff e
cid_of_opened c cff false is e cid = contradiction (is_cid_keyed c) cid is

pub record WasOpened (bytes : List ℕ) : Type 0 where
  pub cff : Cff
  pub cff_is : cff_parts bytes ≡ Some cff
  pub top : TopIsSound cff

pub was_opened : (bytes : List ℕ) (cff : Cff) → opened bytes ≡ Ok cff → WasOpened bytes
unfolding opened opened_parts
was_opened bytes cff e =
    let a = bind_ok (ok_or (first_number bytes) MalformedFont) _ cff e in
    let b = passed (eqb a.0 1) CFFError _ cff a.1.1 in
    let c = bind_ok (ok_or (cff_parts bytes) MalformedFont) _ cff b.1 in
    let d = bind_ok (ok_or (char_strings c.0) MalformedFont) _ cff c.1.1 in
    let f = passed (all_meet top_demands c.0.top && ltb 0 (length d.0)) MalformedFont _ cff d.1.1 in
    record {
      cff = c.0;
      cff_is = some_of (cff_parts bytes) MalformedFont c.0 c.1.0;
      top = record {
        operands = (both (all_meet top_demands c.0.top) (ltb 0 (length d.0)) f.0).0;
        charstrings = d.0;
        charstrings_are = some_of (char_strings c.0) MalformedFont d.0 d.1.0;
        some = ltb-true 0 (length d.0) (both (all_meet top_demands c.0.top) (ltb 0 (length d.0)) f.0).1;
        cid = cid_of_opened c.0 cff (is_cid_keyed c.0) refl f.1;
      };
    }

-- where a source is opened, it has none of the faults that are found while it is opened
pub opened_is_sound : (bytes : List ℕ) (cff : Cff) (e : Error) → opened bytes ≡ Ok cff → HasCffOpeningFault bytes e → ⊥
opened_is_sound bytes cff e opened_ok (in_front fault) = let w = was_opened bytes cff opened_ok in no_front_fault bytes e (front_is_read bytes w.cff w.cff_is) fault
opened_is_sound bytes cff e opened_ok (in_top c is fault) =
    let w = was_opened bytes cff opened_ok in
    no_top_fault c e (subst TopIsSound (same_Some _ _ (sym w.cff_is ∙ is)) w.top) fault
