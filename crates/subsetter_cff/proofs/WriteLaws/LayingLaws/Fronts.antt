-- The front of a table that is laid out, read again.
use Rattle.std.proofs.Common.{◌≡◌, ℕ, ◌-◌, List, [], ◌∷◌, ◌++◌, map, length, Some, refl, ap, arith, append_assoc, length-append}
use Rattle.std.proofs.lemmas.List.{take_at}
use Rattle.subsetter_cffdata.specs.Indexes.Index.{index}
use Rattle.subsetter_cffdata.specs.Dicts.Dict.{dict}
use Rattle.subsetter_cffdata.proofs.IndexesLaws.Indexes.{index_again}
use Rattle.subsetter_cffdata.proofs.DictsLaws.Dicts.{dict_again}
use Rattle.subsetter_cff.specs.Read.Cff.{Cff, past_header, name_index, top_index, string_index, subroutine_index, top_dict, before, name_bytes, cff_parts}
use Rattle.subsetter_base.specs.Bytes.{first_number}
use Rattle.subsetter_cff.specs.Write.Laying.Layout.{Parts, strings, top_entries, front, table_offsets, past_front, cff_table, header}
use Rattle.subsetter_cff.specs.Write.Laying.Fits.{Fits}
use Rattle.subsetter_cff.proofs.WriteLaws.NewDictsLaws.Tops.{tops}
use Rattle.subsetter_cff.proofs.WriteLaws.LayingLaws.Sizes.{top_fits, strings_fit, none_fit, all_entries_fit}

abbrev top_bytes : Parts → List ℕ
top_bytes p = dict (top_entries p (table_offsets p))

abbrev past_strings : Parts → List ℕ
past_strings p = index [] ++ past_front p

abbrev past_top : Parts → List ℕ
past_top p = index (strings p) ++ past_strings p

abbrev past_names : Parts → List ℕ
past_names p = index (top_bytes p ∷ []) ++ past_top p

regroup : (a b c d e : List ℕ) → (a ++ (b ++ (c ++ d))) ++ e ≡ a ++ (b ++ (c ++ (d ++ e)))
regroup a b c d e = simp append_assoc

whole : (p : Parts) → cff_table p ≡ header ++ (p.names ++ past_names p)
unfolding cff_table front
whole p = ap (λ (l : List ℕ). header ++ l) (regroup p.names (index (top_bytes p ∷ [])) (index (strings p)) (index []) (past_front p))

pub major_read : (p : Parts) → first_number (cff_table p) ≡ Some 1
major_read p = ap first_number (whole p)

header_read : (p : Parts) → past_header (cff_table p) ≡ Some (p.names ++ past_names p)
unfolding past_header
header_read p = ap past_header (whole p)

names_read : (p : Parts) (fits : Fits p) → name_index (cff_table p) ≡ Some (fits.name_entries, past_names p)
unfolding name_index
names_read p fits = rw (header_read p) (fits.names (past_names p))

tops_read : (p : Parts) → Fits p → top_index (cff_table p) ≡ Some (Some (top_bytes p) ∷ [], past_top p)
unfolding top_index
tops_read p fits = rw (names_read p fits) (index_again (top_bytes p ∷ []) (top_fits p fits) (past_top p))

strings_read : (p : Parts) → Fits p → string_index (cff_table p) ≡ Some (map Some (strings p), past_strings p)
unfolding string_index
strings_read p fits = rw (tops_read p fits) (index_again (strings p) (strings_fit p fits) (past_strings p))

subroutines_read : (p : Parts) → Fits p → subroutine_index (cff_table p) ≡ Some ([], past_front p)
unfolding subroutine_index
subroutines_read p fits = rw (strings_read p fits) (index_again [] none_fit (past_front p))

top_read : (p : Parts) → Fits p → top_dict (cff_table p) ≡ Some (tops p (table_offsets p))
unfolding top_dict
top_read p fits = rw (tops_read p fits) (ap Some (dict_again (top_entries p (table_offsets p)) (all_entries_fit p fits)))

before_is : (xs ys : List ℕ) → before (xs ++ ys) ys ≡ xs
before_is xs ys = take_at xs ys (length (xs ++ ys) - length ys) (omega (arith, length-append xs ys))

name_bytes_read : (p : Parts) → Fits p → name_bytes (cff_table p) ≡ Some p.names
unfolding name_bytes
name_bytes_read p fits = rw (header_read p, names_read p fits) (ap Some (before_is p.names (past_names p)))

-- the table as it is read
abbrev pub laid_out : Parts → Cff
laid_out p = record { bytes = cff_table p; names = p.names; top = tops p (table_offsets p); strings = map Some (strings p); subroutines = [] }

pub parts_read : (p : Parts) → Fits p → cff_parts (cff_table p) ≡ Some (laid_out p)
unfolding cff_parts
parts_read p fits = rw (major_read p, name_bytes_read p fits, top_read p fits, strings_read p fits, subroutines_read p fits) refl
