-- The font dicts of a table that was laid out, and with them the table, are opened again.
use Rattle.std.proofs.Common.{◌≡◌, ℕ, suc, ◌+◌, ◌<◌, ◌≤◌, ◌^◌, true, List, [], ◌∷◌, map, length, Option, Some, None, refl, ap, arith, ◌∙◌, sym, subst}
use Rattle.std.specs.Prelude.{slice_get, is_some, Ok}
use Rattle.std.proofs.lemmas.Bool.{lt-ltb}
use Rattle.std.proofs.lemmas.List.{length-map, append-nil}
use Rattle.std.proofs.lemmas.Option.{same_Some}
use Rattle.subsetter_cffdata.specs.Numerals.Numbers.{Number}
use Rattle.subsetter_cffdata.specs.Dicts.Dict.{Entry, NewEntry, meaning, entries}
use Rattle.subsetter_cff.specs.Read.Strings.{FontString, standard_strings}
use Rattle.subsetter_cff.specs.Read.FdArray.Private.{Private, private_by, private_at}
use Rattle.subsetter_cff.specs.Read.Entries.Operators.{font_name_operator, font_matrix_operator}
use Rattle.subsetter_cff.specs.Write.Laying.Layout.{FontDict, Parts, strings, integer, private_entry, string_entries, private_bytes, entries_of_font_dict_by, font_dicts_from, privates_offset, cff_table}
use Rattle.subsetter_cffdata.specs.Dicts.Plain.{plain_entry}
use Rattle.subsetter_cff.specs.Write.Laying.Fits.{Fits, FitsString}
use Rattle.subsetter_cff.specs.Read.Opened.{meets, all_meet, all_lead, sound_font_dicts, opened_cid, opened_parts, opened}
use Rattle.subsetter_cff.specs.Read.Entries.OperandDemands.{font_dict_demands}
use Rattle.subsetter_cff.proofs.WriteLaws.StringsLaws.Strings.{string_operand_is, get_at}
use Rattle.subsetter_cff.proofs.WriteLaws.NewDictsLaws.Tops.{plain_values}
use Rattle.subsetter_cff.proofs.WriteLaws.LayingLaws.Sizes.{length-font_dicts_from}
use Rattle.subsetter_cff.proofs.WriteLaws.LayingLaws.Fronts.{laid_out, major_read, parts_read}
use Rattle.subsetter_cff.proofs.WriteLaws.NewDictsLaws.FontDicts.{font_dict_entries, range_operands_is, own_private, all_at}
use Rattle.subsetter_cff.proofs.WriteLaws.LayingLaws.Whole.{chars_read, dicts_read, select_read}
use Rattle.subsetter_cff.proofs.WriteLaws.AgainLaws.NumberLaws.FontDicts.{keyed_again, own, own_fits, read_at, private_there, private_length}
use Rattle.subsetter_cff.proofs.WriteLaws.AgainLaws.Demands.{Shaped, strings_meet, top_meets}

-- ---- a font dict
name_meets : (n : ℕ) → n < 65536 → meets font_dict_demands (record { operator = font_name_operator; operands = integer n ∷ [] }) ≡ true
name_meets n lt = rw (string_operand_is n lt) refl

front_meets : (m : List Number) (size place : ℕ) (ls : List NewEntry) → length m ≡ 6 → size < 2 ^ 31 → place < 2 ^ 31 → all_meet font_dict_demands (map meaning ls) ≡ true
    → all_meet font_dict_demands (map meaning (plain_entry font_matrix_operator m ∷ private_entry size place ∷ ls)) ≡ true
front_meets m size place ls six lt lt' e = rw (plain_values m, six, range_operands_is size place lt lt', e) refl

dict_meets : (ss : List (List ℕ)) (place : ℕ) (f : FontDict) → length f.matrix ≡ 6 → FitsString f.name → length ss + standard_strings ≤ 65536 → length (private_bytes f) < 2 ^ 31 → place < 2 ^ 31
    → all_meet font_dict_demands (font_dict_entries ss place f) ≡ true
unfolding entries_of_font_dict_by
dict_meets ss place f six name few lt lt' =
    front_meets f.matrix (length (private_bytes f)) place (string_entries ss font_name_operator f.name) six lt lt'
    (subst (λ ls. all_meet font_dict_demands (map meaning ls) ≡ true) (append-nil (string_entries ss font_name_operator f.name)) (strings_meet font_dict_demands ss font_name_operator f.name [] name few name_meets refl))

name_leads : (bytes : List ℕ) (ss : List (List ℕ)) (o : Option FontString) → all_lead bytes (map meaning (string_entries ss font_name_operator o)) ≡ true
name_leads bytes ss None = refl
name_leads bytes ss (Some t) = refl

some_private : (bytes : List ℕ) (xs : List Number) (x : Private) → private_by bytes (Some xs) ≡ Some x → is_some (private_by bytes (Some xs)) ≡ true
some_private bytes xs x e = rw e refl

named_private : (bytes : List ℕ) (ss : List (List ℕ)) (place : ℕ) (f : FontDict) (x : Private) → private_at bytes (font_dict_entries ss place f) ≡ Some x
    → private_by bytes (Some (integer (length (private_bytes f)) ∷ integer place ∷ [])) ≡ Some x
unfolding private_at
named_private bytes ss place f x e = ap (private_by bytes) (sym (own_private ss place f)) ∙ e

dict_leads : (bytes : List ℕ) (ss : List (List ℕ)) (place : ℕ) (f : FontDict) (x : Private) → private_at bytes (font_dict_entries ss place f) ≡ Some x → all_lead bytes (font_dict_entries ss place f) ≡ true
unfolding entries_of_font_dict_by
dict_leads bytes ss place f x e =
    rw (some_private bytes (integer (length (private_bytes f)) ∷ integer place ∷ []) x (named_private bytes ss place f x e), name_leads bytes ss f.name) refl

-- ---- all
sound_all : (bytes : List ℕ) (ds : List (List Entry)) → ((i : ℕ) (d : List Entry) → i < length ds → slice_get ds i ≡ Some d → (all_meet font_dict_demands d ≡ true) × (all_lead bytes d ≡ true)) → sound_font_dicts bytes ds ≡ true
sound_all bytes [] h = refl
sound_all bytes (d ∷ ds) h =
    let here = h 0 d (omega arith) refl in
    rw (here.0, here.1, sound_all bytes ds (λ i e lt at. h (suc i) e (omega (arith, lt)) at)) refl

module _ (p : Parts) (fits : Fits p) (shaped : Shaped p) where
  items : List (List Entry)
  items = map entries (font_dicts_from (strings p) (privates_offset p) p.font_dicts)

  one_sound : (i : ℕ) (d : List Entry) → i < length items → slice_get items i ≡ Some d → (all_meet font_dict_demands d ≡ true) × (all_lead (cff_table p) d ≡ true)
  unfolding items
  one_sound i d lt at =
      let inside : i < length p.font_dicts = omega (arith, lt, length-map (font_dicts_from (strings p) (privates_offset p) p.font_dicts) entries, length-font_dicts_from (strings p) (privates_offset p) p.font_dicts) in
      let f = get_at p.font_dicts i inside in
      let o = own p fits i f.0 f.1 in
      let short = private_length p fits i f.0 f.1 in
      subst (λ e. (all_meet font_dict_demands e ≡ true) × (all_lead (cff_table p) e ≡ true)) (same_Some _ _ (sym (read_at p fits i f.0 f.1) ∙ at)) (
        dict_meets (strings p) (privates_offset p + length o.front) f.0 (all_at (λ (g : FontDict). length g.matrix ≡ 6) p.font_dicts i f.0 shaped.font_dicts f.1) (own_fits p fits i f.0 f.1).name fits.string_count
            (omega (arith, fits.offset, short)) (omega (arith, fits.offset, short)),
        dict_leads (cff_table p) (strings p) (privates_offset p + length o.front) f.0 _ (private_there p fits i f.0 f.1),
      )

  opened_dicts : opened_cid (laid_out p) ≡ Ok (laid_out p)
  unfolding opened_cid items
  opened_dicts = let select = select_read p fits in rw (dicts_read p fits, select.is, sound_all (cff_table p) items one_sound) refl

  pub opened_again : opened (cff_table p) ≡ Ok (laid_out p)
  unfolding opened opened_parts
  opened_again =
      rw (major_read p, parts_read p fits, chars_read p fits, top_meets p fits shaped, length-map p.char_strings Some, lt-ltb 0 (length p.char_strings) (omega (arith, fits.some_glyph)), keyed_again p) opened_dicts
