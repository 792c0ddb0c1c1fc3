-- What fits, where the greatest offset of a table does.
use Rattle.std.proofs.Common.{◌≡◌, ℕ, suc, ◌+◌, ◌<◌, ◌≤◌, ◌^◌, List, [], ◌∷◌, ◌++◌, map, length, Option, Some, None, refl, ap, arith, length-append}
use Rattle.std.specs.Prelude.{unwrap_or}
use Rattle.std.specs.List.{concat, AllByRecursion}
use Rattle.std.specs.Str.{bytes_eq}
use Rattle.std.proofs.lemmas.List.{length-map, append-nil}
use Rattle.std.proofs.lemmas.Option.{slice_get_within}
use Rattle.subsetter_base.specs.Remap.{index_by}
use Rattle.subsetter_cffdata.specs.Indexes.Index.{index, header as index_header}
use Rattle.subsetter_cffdata.specs.Numerals.Numbers.{Number, FitsDict}
use Rattle.subsetter_cffdata.specs.Dicts.Dict.{Plain, NewEntry, dict, IsOperator, FitsOperand, FitsNewEntry}
use Rattle.subsetter_cffdata.specs.Indexes.Owned.{FitIndex}
use Rattle.subsetter_cff.specs.Read.Strings.{FontString, Standard, Custom, standard_strings}
use Rattle.subsetter_cff.specs.Read.Entries.Operators.{notice_operator, font_box_operator, charset_operator, char_strings_operator, copyright_operator, font_matrix_operator, registry_operator, cid_count_operator, font_dicts_operator, font_dict_select_operator, font_name_operator}
use Rattle.subsetter_cff.specs.Write.Laying.Layout.{FontDict, Parts, Offsets, strings, number_of, integer, string_entries, offset_entry, private_entry, private_bytes, entries_of_font_dict, entries_of_font_dict_by, font_dicts_from, placed_entries, top_entries, top_entries_by, front, table_offsets, privates_offset, font_dicts_of}
use Rattle.subsetter_cffdata.specs.Dicts.Plain.{plain_entry}
use Rattle.subsetter_cff.specs.Write.Laying.Fits.{Fits, FitsString, FitNumbers, FitsFontDict}
use Rattle.subsetter_cff.proofs.WriteLaws.StringsLaws.Strings.{place_found}
use Rattle.subsetter_cff.proofs.WriteLaws.LayingLaws.Places.{length-front}

-- ---- an INDEX holds its items
pub index_holds : (items : List (List ℕ)) → length (concat items) ≤ length (index items)
unfolding index
index_holds [] = omega arith
index_holds (item ∷ items) = omega (arith, length-append (index_header (item ∷ items)) (concat (item ∷ items)))

pub in_front : (p : Parts) (o : Offsets) → length (index (dict (top_entries p o) ∷ [])) + length (index (strings p)) ≤ length (front p o)
unfolding front
in_front p o =
    let top = index (dict (top_entries p o) ∷ []) in
    let ss = index (strings p) in
    omega (arith, length-append p.names (top ++ (ss ++ index [])), length-append top (ss ++ index []), length-append ss (index []))

pub top_fits : (p : Parts) → Fits p → FitIndex (dict (top_entries p (table_offsets p)) ∷ [])
top_fits p fits =
    record { count = omega arith; size = omega (arith, fits.offset, index_holds (dict (top_entries p (table_offsets p)) ∷ []), in_front p (table_offsets p), length-front p (table_offsets p)) }

pub strings_fit : (p : Parts) → Fits p → FitIndex (strings p)
strings_fit p fits = record { count = omega (arith, fits.string_count); size = omega (arith, fits.offset, index_holds (strings p), in_front p (table_offsets p), length-front p (table_offsets p)) }

pub none_fit : FitIndex []
none_fit = record { count = omega arith; size = omega arith }

pub char_strings_fit : (p : Parts) → Fits p → FitIndex p.char_strings
char_strings_fit p fits = record { count = omega (arith, fits.glyph_count); size = fits.char_strings_size }

pub length-font_dicts_from : (ss : List (List ℕ)) (place : ℕ) (fs : List FontDict) → length (font_dicts_from ss place fs) ≡ length fs
length-font_dicts_from ss place [] = refl
length-font_dicts_from ss place (f ∷ fs) = ap suc (length-font_dicts_from ss (place + length (private_bytes f)) fs)

pub font_dicts_fit : (p : Parts) → Fits p → FitIndex (font_dicts_from (strings p) (privates_offset p) p.font_dicts)
unfolding font_dicts_of
font_dicts_fit p fits =
    let items = font_dicts_from (strings p) (privates_offset p) p.font_dicts in
    record { count = omega (arith, fits.font_dict_count, length-font_dicts_from (strings p) (privates_offset p) p.font_dicts); size = omega (arith, fits.offset, index_holds items) }

-- ---- entries
fits_operands : (xs : List Number) → AllByRecursion FitsDict xs → AllByRecursion FitsOperand (map Plain xs)
fits_operands [] all = all
fits_operands (x ∷ xs) all = (all.0, fits_operands xs all.1)

pub plain_fits : (operator : List ℕ) (xs : List Number) → IsOperator operator → FitNumbers xs → FitsNewEntry (plain_entry operator xs)
plain_fits operator xs is fit = record { operator = is; operands = fits_operands xs fit.each; few = omega (arith, length-map xs Plain, fit.few) }

pub one_integer : (n : ℕ) → n < 2 ^ 31 → FitNumbers (integer n ∷ [])
one_integer n lt = record { each = (record { sfits = lt }, tt); few = omega arith }

place_small : (ss : List (List ℕ)) (s : List ℕ) (o : Option ℕ) → index_by bytes_eq ss s ≡ o → unwrap_or o 0 ≤ length ss
place_small ss s None e = omega arith
place_small ss s (Some i) e = omega (arith, slice_get_within ss i s (place_found ss s i e))

number_small : (ss : List (List ℕ)) (t : FontString) → FitsString (Some t) → length ss + standard_strings ≤ 65536 → number_of ss t < 2 ^ 31
number_small ss (Standard n) fits few = omega (arith, fits)
number_small ss (Custom s) fits few = omega (arith, few, place_small ss s (index_by bytes_eq ss s) refl)

pub strings_fit_entries : (ss : List (List ℕ)) (operator : List ℕ) (o : Option FontString) (ls : List NewEntry) → IsOperator operator → FitsString o → length ss + standard_strings ≤ 65536
    → AllByRecursion FitsNewEntry ls → AllByRecursion FitsNewEntry (string_entries ss operator o ++ ls)
strings_fit_entries ss operator None ls is fits few all = all
strings_fit_entries ss operator (Some t) ls is fits few all = (plain_fits operator _ is (one_integer (number_of ss t) (number_small ss t fits few)), all)

pub long_fits : (operator : List ℕ) (n : ℕ) → IsOperator operator → n < 2 ^ 31 → FitsNewEntry (offset_entry operator n)
long_fits operator n is lt = record { operator = is; operands = (lt, tt); few = omega arith }

pub private_fits : (size place : ℕ) → size < 2 ^ 31 → place < 2 ^ 31 → FitsNewEntry (private_entry size place)
private_fits size place lt lt' = record { operator = (refl, λ e. omega arith); operands = (lt, (lt', tt)); few = omega arith }

-- a font dict's entries
pub font_dict_fits : (ss : List (List ℕ)) (place : ℕ) (f : FontDict) → FitsFontDict f → length ss + standard_strings ≤ 65536 → length (private_bytes f) < 2 ^ 31 → place < 2 ^ 31
    → AllByRecursion FitsNewEntry (entries_of_font_dict ss place f)
unfolding entries_of_font_dict_by
font_dict_fits ss place f fits few small low =
    (plain_fits font_matrix_operator f.matrix refl fits.matrix, (private_fits (length (private_bytes f)) place small low, rw (← append-nil (string_entries ss font_name_operator f.name)) (strings_fit_entries ss font_name_operator f.name [] refl fits.name few tt)))

-- the top dict's entries
placed_fit : (o : Offsets) → o.charset < 2 ^ 31 → o.char_strings < 2 ^ 31 → o.font_dicts < 2 ^ 31 → o.select < 2 ^ 31 → AllByRecursion FitsNewEntry (placed_entries o)
placed_fit o a b c d = (
  long_fits charset_operator o.charset (refl, λ e. omega arith) a,
  (
    long_fits char_strings_operator o.char_strings (refl, λ e. omega arith) b,
    (
      plain_fits cid_count_operator (integer 65535 ∷ []) refl (one_integer 65535 (omega arith)),
      (long_fits font_dicts_operator o.font_dicts refl c, (long_fits font_dict_select_operator o.select refl d, tt)),
    ),
  ),
)

pub all_entries_fit : (p : Parts) → Fits p → AllByRecursion FitsNewEntry (top_entries p (table_offsets p))
unfolding top_entries_by
all_entries_fit p fits =
    let few = fits.string_count in (
      plain_fits registry_operator (integer 391 ∷ integer 392 ∷ integer 0 ∷ []) refl (record { each = (record { sfits = omega arith }, (record { sfits = omega arith }, (record { sfits = omega arith }, tt))); few = omega arith }),
      strings_fit_entries (strings p) copyright_operator p.copyright _ refl fits.copyright few
          (strings_fit_entries (strings p) notice_operator p.notice _ (refl, λ e. omega arith) fits.notice few
          (strings_fit_entries (strings p) font_name_operator p.font_name _ refl fits.font_name few (
            plain_fits font_matrix_operator p.matrix refl fits.matrix,
            (
              plain_fits font_box_operator p.box (refl, λ e. omega arith) fits.box,
              placed_fit (table_offsets p) (omega (arith, fits.offset)) (omega (arith, fits.offset)) (omega (arith, fits.offset)) (omega (arith, fits.offset)),
            ),
          ))),
    )
