-- The font dict of a number, made again of a table that was laid out.
use Rattle.std.proofs.Common.{◌≡◌, ℕ, ◌+◌, ◌≤◌, true, List, [], ◌++◌, map, length, Some, refl, ap, arith, ◌∙◌, length-append}
use Rattle.std.specs.Prelude.{slice_get, Ok}
use Rattle.std.proofs.lemmas.Option.{slice_get-map}
use Rattle.subsetter_cffdata.specs.Indexes.Index.{index}
use Rattle.subsetter_cffdata.specs.Dicts.Dict.{Entry, entries, dict}
use Rattle.subsetter_cffdata.proofs.DictsLaws.Dicts.{dict_again}
use Rattle.subsetter_cff.specs.Read.Cff.{Cff, is_cid_keyed}
use Rattle.subsetter_cff.specs.Read.FdArray.FontDicts.{font_dicts}
use Rattle.subsetter_cff.specs.Read.FdArray.Private.{private_at}
use Rattle.subsetter_cff.specs.Read.Entries.Operators.{subroutines_operator, font_name_operator}
use Rattle.subsetter_cff.specs.Read.Strings.{string_at}
use Rattle.subsetter_cff.specs.Write.Laying.Layout.{FontDict, Parts, strings, private_bytes, privates, entries_of_font_dict, font_dicts_from, font_dicts_of, select_of, table_offsets, privates_offset, cff_table}
use Rattle.subsetter_cff.specs.Write.Laying.Fits.{Fits, FitsFontDict}
use Rattle.subsetter_cff.specs.Write.Plain.{SourceDict, as_source_dict, source_dict, new_font_dict}
use Rattle.subsetter_cff.proofs.WriteLaws.StringsLaws.Strings.{font_dict_named}
use Rattle.subsetter_cff.proofs.WriteLaws.NewDictsLaws.Tops.{registry_is, matrix_is}
use Rattle.subsetter_cff.proofs.WriteLaws.LayingLaws.Places.{before_privates, length-before_privates, privates_in_table}
use Rattle.subsetter_cff.proofs.WriteLaws.LayingLaws.Sizes.{font_dict_fits}
use Rattle.subsetter_cff.proofs.WriteLaws.LayingLaws.Fronts.{laid_out}
use Rattle.subsetter_cff.proofs.WriteLaws.NewDictsLaws.FontDicts.{Found, found, all_at, font_dict_entries, own_matrix, own_name, private_again, private_named, none_left_out}
use Rattle.subsetter_cff.proofs.WriteLaws.LayingLaws.Whole.{dicts_read, regroup, string_if}

pub keyed_again : (p : Parts) → is_cid_keyed (laid_out p) ≡ true
keyed_again p = rw (registry_is p (table_offsets p)) refl

dict_found : (cff : Cff) (number : ℕ) (dicts : List (List Entry)) (d : List Entry) (s : SourceDict) → is_cid_keyed cff ≡ true → font_dicts cff ≡ Some dicts → slice_get dicts number ≡ Some d → as_source_dict cff d ≡ Some s
    → source_dict cff number ≡ Some s
dict_found cff number dicts d s cid are at e = rw (cid, are, at) e

module _ (p : Parts) (fits : Fits p) (number : ℕ) (f : FontDict) (is : slice_get p.font_dicts number ≡ Some f) where
  pub own : Found (strings p) (privates_offset p) p.font_dicts number f
  own = found (strings p) (privates_offset p) p.font_dicts number f is

  pub own_fits : FitsFontDict f
  own_fits = all_at FitsFontDict p.font_dicts number f fits.font_dicts is

  pub private_length : length own.front + length (private_bytes f) ≤ length (privates p.font_dicts)
  private_length = omega (arith, ap length own.is, length-append own.front (private_bytes f ++ own.back), length-append (private_bytes f) own.back)

  abbrev pub again : List Entry
  again = font_dict_entries (strings p) (privates_offset p + length own.front) f

  all_entries_again : entries (dict (entries_of_font_dict (strings p) (privates_offset p + length own.front) f)) ≡ again
  all_entries_again = dict_again (entries_of_font_dict (strings p) (privates_offset p + length own.front) f)
      (font_dict_fits (strings p) (privates_offset p + length own.front) f own_fits fits.string_count (omega (arith, fits.offset, private_length)) (omega (arith, fits.offset, private_length)))

  pub read_at : slice_get (map entries (font_dicts_from (strings p) (privates_offset p) p.font_dicts)) number ≡ Some again
  read_at = rw (slice_get-map entries (font_dicts_from (strings p) (privates_offset p) p.font_dicts) number, own.dict_is) (ap Some all_entries_again)

  pub private_there : private_at (cff_table p) again ≡ Some (record { entries = f.private; subroutines = [] })
  private_there =
      let before = before_privates p ++ own.front in
      let after = select_of p ++ (font_dicts_of p ++ index p.char_strings) in
      let split : cff_table p ≡ before ++ (private_bytes f ++ (own.back ++ after)) =
      privates_in_table p ∙ ap (λ (l : List ℕ). before_privates p ++ (l ++ after)) own.is ∙ regroup (before_privates p) own.front (private_bytes f) own.back after in
      private_named (strings p) (cff_table p) (privates_offset p + length own.front) f _ (omega (arith, fits.offset, private_length)) (omega (arith, fits.offset, private_length))
      (private_again (cff_table p) before (own.back ++ after) (privates_offset p + length own.front) f own_fits split (omega (arith, length-before_privates p, length-append (before_privates p) own.front)))

  name_there : string_at (laid_out p).strings font_name_operator again ≡ Some f.name
  name_there = rw (own_name (strings p) (privates_offset p + length own.front) f) (string_if p f.name own_fits.name fits.string_count (font_dict_named p number f is))

  source_again : source_dict (laid_out p) number ≡ Some (record { own = Some f.matrix; private = record { entries = f.private; subroutines = [] }; name = Some f.name })
  source_again = dict_found (laid_out p) number (map entries (font_dicts_from (strings p) (privates_offset p) p.font_dicts)) again _ (keyed_again p) (dicts_read p fits) read_at
      (rw (private_there, own_matrix (strings p) (privates_offset p + length own.front) f, name_there) refl)

  pub dict_again_made : new_font_dict (laid_out p) number ≡ Ok f
  unfolding new_font_dict
  dict_again_made = rw (source_again, matrix_is p (table_offsets p), none_left_out subroutines_operator f.private own_fits.no_subroutines) refl
