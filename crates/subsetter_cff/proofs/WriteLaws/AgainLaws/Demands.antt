-- A table that was laid out is opened again.
use Rattle.std.proofs.Common.{◌≡◌, ℕ, ◌+◌, ◌<◌, ◌≤◌, ◌^◌, true, List, [], ◌∷◌, ◌++◌, map, length, Option, Some, None, refl, arith}
use Rattle.std.specs.Prelude.{unwrap_or}
use Rattle.std.specs.List.{AllByRecursion}
use Rattle.std.specs.Str.{bytes_eq}
use Rattle.std.proofs.lemmas.Option.{slice_get_within}
use Rattle.subsetter_base.specs.Remap.{index_by}
use Rattle.subsetter_cffdata.specs.Numerals.Numbers.{Number}
use Rattle.subsetter_cffdata.specs.Dicts.Dict.{NewEntry, meaning}
use Rattle.subsetter_cff.specs.Read.Strings.{FontString, Standard, Custom, standard_strings}
use Rattle.subsetter_cff.specs.Read.Entries.Operators.{font_name_operator, copyright_operator, notice_operator, font_matrix_operator, font_box_operator}
use Rattle.subsetter_cff.specs.Write.Laying.Layout.{FontDict, Parts, Offsets, strings, number_of, integer, string_entries, table_offsets, placed_entries, top_entries_by}
use Rattle.subsetter_cffdata.specs.Dicts.Plain.{plain_entry}
use Rattle.subsetter_cff.specs.Write.Laying.Fits.{Fits, FitsString}
use Rattle.subsetter_cff.specs.Read.Opened.{meets, all_meet}
use Rattle.subsetter_cff.specs.Read.Entries.OperandDemands.{Demand, top_demands}
use Rattle.subsetter_cff.proofs.WriteLaws.StringsLaws.Strings.{place_found, string_operand_is}
use Rattle.subsetter_cff.proofs.WriteLaws.NewDictsLaws.Tops.{tops, plain_values}
use Rattle.subsetter_cff.proofs.WriteLaws.NewDictsLaws.FontDicts.{offset_operand_is}

-- matrices have six numbers, and the box four
pub record Shaped (p : Parts) : Type 0 where
  pub matrix : length p.matrix ≡ 6
  pub box : length p.box ≡ 4
  pub font_dicts : AllByRecursion (λ (f : FontDict). length f.matrix ≡ 6) p.font_dicts

-- ---- numbers of strings
place_under : (ss : List (List ℕ)) (s : List ℕ) (o : Option ℕ) → index_by bytes_eq ss s ≡ o → length ss + standard_strings ≤ 65536 → standard_strings + unwrap_or o 0 < 65536
place_under ss s None e few = omega (arith, few)
place_under ss s (Some i) e few = omega (arith, few, slice_get_within ss i s (place_found ss s i e))

number_under : (ss : List (List ℕ)) (t : FontString) → FitsString (Some t) → length ss + standard_strings ≤ 65536 → number_of ss t < 65536
number_under ss (Standard n) fits few = omega (arith, fits)
number_under ss (Custom s) fits few = place_under ss s (index_by bytes_eq ss s) refl few

pub strings_meet : (ds : List Demand) (ss : List (List ℕ)) (operator : List ℕ) (o : Option FontString) (ls : List NewEntry) → FitsString o → length ss + standard_strings ≤ 65536
    → ((n : ℕ) → n < 65536 → meets ds (record { operator = operator; operands = integer n ∷ [] }) ≡ true) → all_meet ds (map meaning ls) ≡ true → all_meet ds (map meaning (string_entries ss operator o ++ ls)) ≡ true
strings_meet ds ss operator None ls fits few h e = e
strings_meet ds ss operator (Some t) ls fits few h e = rw (h (number_of ss t) (number_under ss t fits few), e) refl

-- ---- the top dict
copyright_meets : (n : ℕ) → n < 65536 → meets top_demands (record { operator = copyright_operator; operands = integer n ∷ [] }) ≡ true
copyright_meets n lt = rw (string_operand_is n lt) refl

notice_meets : (n : ℕ) → n < 65536 → meets top_demands (record { operator = notice_operator; operands = integer n ∷ [] }) ≡ true
notice_meets n lt = rw (string_operand_is n lt) refl

font_name_meets : (n : ℕ) → n < 65536 → meets top_demands (record { operator = font_name_operator; operands = integer n ∷ [] }) ≡ true
font_name_meets n lt = rw (string_operand_is n lt) refl

placed_meet : (o : Offsets) → o.charset < 2 ^ 31 → o.char_strings < 2 ^ 31 → o.font_dicts < 2 ^ 31 → o.select < 2 ^ 31 → all_meet top_demands (map meaning (placed_entries o)) ≡ true
placed_meet o a b c d = rw (offset_operand_is o.charset a, offset_operand_is o.char_strings b, offset_operand_is o.font_dicts c, offset_operand_is o.select d) refl

numbers_meet : (m b : List Number) (ls : List NewEntry) → length m ≡ 6 → length b ≡ 4 → all_meet top_demands (map meaning ls) ≡ true → all_meet top_demands (map meaning (plain_entry font_matrix_operator m ∷ plain_entry font_box_operator b ∷ ls)) ≡ true
numbers_meet m b ls six four e = rw (plain_values m, plain_values b, six, four, e) refl

pub top_meets : (p : Parts) → Fits p → Shaped p → all_meet top_demands (tops p (table_offsets p)) ≡ true
unfolding top_entries_by
top_meets p fits shaped =
    let few = fits.string_count in
    strings_meet top_demands (strings p) copyright_operator p.copyright _ fits.copyright few copyright_meets
    (strings_meet top_demands (strings p) notice_operator p.notice _ fits.notice few notice_meets
    (strings_meet top_demands (strings p) font_name_operator p.font_name _ fits.font_name few font_name_meets
    (numbers_meet p.matrix p.box (placed_entries (table_offsets p)) shaped.matrix shaped.box
    (placed_meet (table_offsets p) (omega (arith, fits.offset)) (omega (arith, fits.offset)) (omega (arith, fits.offset)) (omega (arith, fits.offset))))))
