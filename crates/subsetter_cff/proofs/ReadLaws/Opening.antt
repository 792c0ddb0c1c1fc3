-- A table is opened part by part.
use Rattle.std.proofs.Common.{◌≡◌, ℕ, Bool, true, false, eqb, ltb, ◌&&◌, List, [], ◌∷◌, length, drop, map, Option, Some, None, refl, ap, ◌∙◌, sym, inl, inr, ◌⊎◌}
use Rattle.std.specs.Prelude.{Ok, Err}
use Rattle.std.specs.Option.{option_map, option_and_then}
use Rattle.std.proofs.lemmas.Bool.{cases_Bool, eqb-true}
use Rattle.subsetter_base.specs.Bytes.{◌>>=◌, first_number}
use Rattle.subsetter_base.specs.Gives.{Fails}
use Rattle.subsetter_base.specs.declared.error.Error.{Error}
use Rattle.subsetter_base.specs.declared.error.Error.TheVariants.{MalformedFont, OutOfMemory}
use Rattle.subsetter_cffdata.specs.Dicts.Dict.{Entry, entries}
use Rattle.subsetter_cffdata.specs.Indexes.Index.{index_at, readable}
use Rattle.subsetter_cff.specs.Read.Cff.{Cff, at_offset, char_strings}
use Rattle.subsetter_cff.specs.Read.FdArray.FontDicts.{FontDictSelect, select_at, font_dicts, font_dict_select}
use Rattle.subsetter_cff.specs.Read.Fault.{HasWrongOperands}
use Rattle.subsetter_cff.specs.Read.FdArray.FontDictFaults.{HasFontDictFault, wrong_entry}
use Rattle.subsetter_cff.specs.Read.FdArray.FontDictList.{HasFaultAmong}
use Rattle.subsetter_cff.specs.Read.FrontView.{front_read}
use Rattle.subsetter_cff.specs.Read.Entries.OperandDemands.{top_demands, font_dict_demands}
use Rattle.subsetter_cff.specs.Read.Opened.{all_meet, all_lead, sound_font_dicts, opened_cid, opened_parts, opened}
use Rattle.subsetter_cff.specs.Read.Entries.Operators.{char_strings_operator, font_dicts_operator, font_dict_select_operator}
use Rattle.subsetter_cff.specs.Read.Source.{entries_at, opened_keyed, opened_top}
use Rattle.subsetter_cff.specs.Read.Entries.TopDicts.{last_offset}
use Rattle.subsetter_cff.proofs.ReadLaws.EntriesLaws.EntryFaults.{all_wrong}
use Rattle.subsetter_cff.proofs.ReadLaws.EntriesLaws.EntrySound.{no_wrong}
use Rattle.subsetter_cff.proofs.ReadLaws.FrontParts.{parts_are}
use Rattle.subsetter_cff.proofs.ReadLaws.FdArrayLaws.LeadingEntries.{nowhere_stands, no_font_dict_fault}

-- ---- what an offset of the top dict leads to
leads_to : (cff : Cff) (operator : List ℕ) (offset : Option ℕ) → offset ≡ last_offset operator cff.top → at_offset cff operator ≡ option_and_then (λ o. Some (drop o cff.bytes)) offset
unfolding at_offset
leads_to cff operator offset e = ap (option_and_then (λ (o : ℕ). Some (drop o cff.bytes))) (sym e)

pub char_strings_at : (cff : Cff) (offset : Option ℕ) → offset ≡ last_offset char_strings_operator cff.top → char_strings cff ≡ entries_at cff.bytes offset
unfolding char_strings
char_strings_at cff None e = rw (leads_to cff char_strings_operator None e) refl
char_strings_at cff (Some o) e = rw (leads_to cff char_strings_operator (Some o) e) refl

abbrev dicts_in : List (Option (List ℕ)) → List (List Entry)
dicts_in es = map entries (readable es)

twice : (o : Option (List (Option (List ℕ)) × List ℕ)) → option_map (λ index. dicts_in index.0) o ≡ option_map dicts_in (option_map (λ index. index.0) o)
twice None = refl
twice (Some x) = refl

font_dicts_at : (cff : Cff) (offset : Option ℕ) → offset ≡ last_offset font_dicts_operator cff.top → font_dicts cff ≡ option_map dicts_in (entries_at cff.bytes offset)
unfolding font_dicts
font_dicts_at cff None e = rw (leads_to cff font_dicts_operator None e) refl
font_dicts_at cff (Some o) e = rw (leads_to cff font_dicts_operator (Some o) e) (twice (index_at (drop o cff.bytes)))

pub font_dicts_are : (cff : Cff) (offset : Option ℕ) (es : List (Option (List ℕ))) → offset ≡ last_offset font_dicts_operator cff.top → entries_at cff.bytes offset ≡ Some es → font_dicts cff ≡ Some (map entries (readable es))
font_dicts_are cff offset es e is = font_dicts_at cff offset e ∙ ap (option_map dicts_in) is

pub no_font_dicts : (cff : Cff) (offset : Option ℕ) → offset ≡ last_offset font_dicts_operator cff.top → entries_at cff.bytes offset ≡ None → font_dicts cff ≡ None
no_font_dicts cff offset e is = font_dicts_at cff offset e ∙ ap (option_map dicts_in) is

select_at_offset : (cff : Cff) (all : List (Option (List ℕ))) (offset : Option ℕ) → char_strings cff ≡ Some all → offset ≡ last_offset font_dict_select_operator cff.top
    → font_dict_select cff ≡ option_and_then (λ o. select_at (length all) (drop o cff.bytes)) offset
unfolding font_dict_select
select_at_offset cff all None c e = rw (c, leads_to cff font_dict_select_operator None e) refl
select_at_offset cff all (Some o) c e = rw (c, leads_to cff font_dict_select_operator (Some o) e) refl

pub select_is : (cff : Cff) (all : List (Option (List ℕ))) (n : ℕ) (offset : Option ℕ) (s : Option FontDictSelect) → char_strings cff ≡ Some all → n ≡ length all
    → offset ≡ last_offset font_dict_select_operator cff.top → s ≡ option_and_then (λ o. select_at n (drop o cff.bytes)) offset → font_dict_select cff ≡ s
select_is cff all n offset s c count e is =
    select_at_offset cff all offset c e ∙ ap (λ (k : ℕ). option_and_then (λ o. select_at k (drop o cff.bytes)) offset) (sym count) ∙ sym is

-- ---- demands that are met, and font dicts that are sound
pub demands_met : (cff : Cff) → (HasWrongOperands top_demands cff.top → ⊥) → all_meet top_demands cff.top ≡ true
demands_met cff none = elim (cases_Bool (all_meet top_demands cff.top)) [ inl met ↦ met | inr unmet ↦ absurd (none (all_wrong top_demands cff.top unmet)) ]

demands_unmet : (cff : Cff) → HasWrongOperands top_demands cff.top → all_meet top_demands cff.top ≡ false
demands_unmet cff fault = elim (cases_Bool (all_meet top_demands cff.top)) [ inl met ↦ absurd (no_wrong top_demands cff.top met fault) | inr unmet ↦ unmet ]

record IsSound (table : List ℕ) (dict : List Entry) : Type 0 where
  met : all_meet font_dict_demands dict ≡ true
  lead : all_lead table dict ≡ true

sound_dict : (table : List ℕ) (dict : List Entry) → (HasFontDictFault table dict → ⊥) → IsSound table dict
sound_dict table dict none = record {
  met = elim (cases_Bool (all_meet font_dict_demands dict)) [ inl met ↦ met | inr unmet ↦ absurd (none (wrong_entry (all_wrong font_dict_demands dict unmet))) ];
  lead = elim (cases_Bool (all_lead table dict)) [ inl lead ↦ lead | inr astray ↦ absurd (none (nowhere_stands table dict astray)) ];
}

unsound_by : (table : List ℕ) (dict : List Entry) (m l rest : Bool) → all_meet font_dict_demands dict ≡ m → all_lead table dict ≡ l → HasFontDictFault table dict → (m && (l && rest)) ≡ false
unsound_by table dict false l rest a b f = refl
unsound_by table dict true false rest a b f = refl
unsound_by table dict true true rest a b f = absurd (no_font_dict_fault table dict (no_wrong font_dict_demands dict a) b f)

no_rest : (m l : Bool) → (m && (l && false)) ≡ false
no_rest false l = refl
no_rest true false = refl
no_rest true true = refl

pub all_sound : (table : List ℕ) (ds : List (List ℕ)) → (HasFaultAmong table ds → ⊥) → sound_font_dicts table (map entries ds) ≡ true
all_sound table [] none = refl
all_sound table (d ∷ ds) none =
    let here = sound_dict table (entries d) (λ f. none (inl f)) in
    rw (here.met, here.lead) (all_sound table ds (λ f. none (inr f)))

pub one_unsound : (table : List ℕ) (ds : List (List ℕ)) → HasFaultAmong table ds → sound_font_dicts table (map entries ds) ≡ false
one_unsound table [] f = absurd f
one_unsound table (d ∷ ds) (inl f) = unsound_by table (entries d) (all_meet font_dict_demands (entries d)) (all_lead table (entries d)) (sound_font_dicts table (map entries ds)) refl refl f
one_unsound table (d ∷ ds) (inr f) = rw (one_unsound table ds f) (no_rest (all_meet font_dict_demands (entries d)) (all_lead table (entries d)))

-- ---- a CID-keyed font
pub cid_opens : (cff : Cff) (ds : List (List Entry)) (s : FontDictSelect) → font_dicts cff ≡ Some ds → font_dict_select cff ≡ Some s → sound_font_dicts cff.bytes ds ≡ true → opened_cid cff ≡ Ok cff
unfolding opened_cid
cid_opens cff ds s a b c = rw (a, b, c) refl

pub cid_without_dicts : (cff : Cff) → font_dicts cff ≡ None → opened_cid cff ≡ Err MalformedFont
unfolding opened_cid
cid_without_dicts cff a = rw a refl

pub cid_without_select : (cff : Cff) (ds : List (List Entry)) → font_dicts cff ≡ Some ds → font_dict_select cff ≡ None → opened_cid cff ≡ Err MalformedFont
unfolding opened_cid
cid_without_select cff ds a b = rw (a, b) refl

pub cid_unsound : (cff : Cff) (ds : List (List Entry)) (s : FontDictSelect) → font_dicts cff ≡ Some ds → font_dict_select cff ≡ Some s → sound_font_dicts cff.bytes ds ≡ false → opened_cid cff ≡ Err MalformedFont
unfolding opened_cid
cid_unsound cff ds s a b c = rw (a, b, c) refl

pub cid_refused : (cff : Cff) (ds : List (List ℕ)) (s : FontDictSelect) (e : Error) → font_dicts cff ≡ Some (map entries ds) → font_dict_select cff ≡ Some s
    → (e ≡ OutOfMemory) ⊎ ((e ≡ MalformedFont) × HasFaultAmong cff.bytes ds) → Fails e (opened_cid cff)
cid_refused cff ds s e a b (inl memory) = rw memory tt
cid_refused cff ds s e a b (inr fault) = rw fault.0 (cid_unsound cff (map entries ds) s a b (one_unsound cff.bytes ds fault.1))

-- ---- the top dict
wrong_by : (cff : Cff) (o : Option (List (Option (List ℕ)))) → char_strings cff ≡ o → all_meet top_demands cff.top ≡ false → opened_top cff ≡ Err MalformedFont
unfolding opened_top
wrong_by cff None is e = rw is refl
wrong_by cff (Some x) is e = rw (is, e) refl

pub top_is_wrong : (cff : Cff) → HasWrongOperands top_demands cff.top → opened_top cff ≡ Err MalformedFont
top_is_wrong cff fault = wrong_by cff (char_strings cff) refl (demands_unmet cff fault)

pub top_without_char_strings : (cff : Cff) → char_strings cff ≡ None → opened_top cff ≡ Err MalformedFont
unfolding opened_top
top_without_char_strings cff is = rw is refl

pub top_without_glyphs : (cff : Cff) (all : List (Option (List ℕ))) → all_meet top_demands cff.top ≡ true → char_strings cff ≡ Some all → ltb 0 (length all) ≡ false → opened_top cff ≡ Err MalformedFont
unfolding opened_top
top_without_glyphs cff all met is none = rw (is, met, none) refl

pub top_opens : (cff : Cff) (all : List (Option (List ℕ))) → all_meet top_demands cff.top ≡ true → char_strings cff ≡ Some all → ltb 0 (length all) ≡ true → opened_top cff ≡ opened_keyed cff
unfolding opened_top
top_opens cff all met is some = rw (is, met, some) refl

-- ---- the whole
opened_by : (bytes : List ℕ) (v : ℕ) (b : Bool) → first_number bytes ≡ Some v → eqb v 1 ≡ b → opened bytes ≡ (front_read bytes >>= opened_top)
unfolding opened front_read opened_parts opened_top
opened_by bytes v true is one = rw (is, one, parts_are bytes (is ∙ ap Some (eqb-true v 1 one))) refl
opened_by bytes v false is one = rw (is, one) refl

opened_of : (bytes : List ℕ) (o : Option ℕ) → first_number bytes ≡ o → opened bytes ≡ (front_read bytes >>= opened_top)
unfolding opened front_read
opened_of bytes None is = rw is refl
opened_of bytes (Some v) is = opened_by bytes v (eqb v 1) is refl

pub opened_is : (bytes : List ℕ) → opened bytes ≡ (front_read bytes >>= opened_top)
opened_is bytes = opened_of bytes (first_number bytes) refl
