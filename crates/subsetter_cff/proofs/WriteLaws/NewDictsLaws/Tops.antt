-- The entries of the top dict that is laid out.
use Rattle.std.proofs.Common.{◌≡◌, List, [], ◌∷◌, map, Some, None, refl, ap, ◌∙◌}
use Rattle.subsetter_cffdata.specs.Numerals.Numbers.{Number}
use Rattle.subsetter_cffdata.specs.Dicts.Dict.{Plain, value, NewEntry, meaning, Entry}
use Rattle.subsetter_cff.specs.Read.Entries.Lookup.{last_of}
use Rattle.subsetter_cff.specs.Read.Entries.Operators.{notice_operator, font_box_operator, charset_operator, char_strings_operator, copyright_operator, font_matrix_operator, registry_operator, font_dicts_operator, font_dict_select_operator, font_name_operator}
use Rattle.subsetter_cff.specs.Write.Laying.Layout.{Parts, Offsets, strings, integer, top_entries, top_entries_by, placed_entries}
use Rattle.subsetter_cffdata.specs.Dicts.Plain.{plain_entry}
use Rattle.subsetter_cff.proofs.ReadLaws.EntriesLaws.Lookups.{passed, passed_all, met, number_if}

abbrev pub tops : Parts → Offsets → List Entry
tops p o = map meaning (top_entries p o)

pub plain_values : (xs : List Number) → map value (map Plain xs) ≡ xs
plain_values [] = refl
plain_values (x ∷ xs) = ap (λ (ys : List Number). x ∷ ys) (plain_values xs)

-- what comes after the strings
abbrev following : Parts → Offsets → List NewEntry
following p o = plain_entry font_matrix_operator p.matrix ∷ plain_entry font_box_operator p.box ∷ placed_entries o

pub registry_is : (p : Parts) (o : Offsets) → last_of registry_operator (tops p o) ≡ Some (integer 391 ∷ integer 392 ∷ integer 0 ∷ [])
unfolding top_entries_by
registry_is p o = passed_all _ registry_operator (strings p) p.copyright p.notice p.font_name (following p o) refl refl refl

pub charset_is : (p : Parts) (o : Offsets) → last_of charset_operator (tops p o) ≡ Some (integer o.charset ∷ [])
unfolding top_entries_by
charset_is p o = passed_all None charset_operator (strings p) p.copyright p.notice p.font_name (following p o) refl refl refl

pub char_strings_is : (p : Parts) (o : Offsets) → last_of char_strings_operator (tops p o) ≡ Some (integer o.char_strings ∷ [])
unfolding top_entries_by
char_strings_is p o = passed_all None char_strings_operator (strings p) p.copyright p.notice p.font_name (following p o) refl refl refl

pub font_dicts_is : (p : Parts) (o : Offsets) → last_of font_dicts_operator (tops p o) ≡ Some (integer o.font_dicts ∷ [])
unfolding top_entries_by
font_dicts_is p o = passed_all None font_dicts_operator (strings p) p.copyright p.notice p.font_name (following p o) refl refl refl

pub select_is : (p : Parts) (o : Offsets) → last_of font_dict_select_operator (tops p o) ≡ Some (integer o.select ∷ [])
unfolding top_entries_by
select_is p o = passed_all None font_dict_select_operator (strings p) p.copyright p.notice p.font_name (following p o) refl refl refl

pub matrix_is : (p : Parts) (o : Offsets) → last_of font_matrix_operator (tops p o) ≡ Some p.matrix
unfolding top_entries_by
matrix_is p o = passed_all None font_matrix_operator (strings p) p.copyright p.notice p.font_name (following p o) refl refl refl ∙ ap Some (plain_values p.matrix)

pub box_is : (p : Parts) (o : Offsets) → last_of font_box_operator (tops p o) ≡ Some p.box
unfolding top_entries_by
box_is p o = passed_all None font_box_operator (strings p) p.copyright p.notice p.font_name (following p o) refl refl refl ∙ ap Some (plain_values p.box)

-- ---- the strings

pub copyright_is : (p : Parts) (o : Offsets) → last_of copyright_operator (tops p o) ≡ number_if (strings p) p.copyright
unfolding top_entries_by
copyright_is p o =
    met copyright_operator copyright_operator (strings p) p.copyright _ refl
    ∙ passed _ copyright_operator notice_operator (strings p) p.notice _ refl
    ∙ passed _ copyright_operator font_name_operator (strings p) p.font_name (following p o) refl

pub notice_is : (p : Parts) (o : Offsets) → last_of notice_operator (tops p o) ≡ number_if (strings p) p.notice
unfolding top_entries_by
notice_is p o =
    passed None notice_operator copyright_operator (strings p) p.copyright _ refl
    ∙ met notice_operator notice_operator (strings p) p.notice _ refl
    ∙ passed _ notice_operator font_name_operator (strings p) p.font_name (following p o) refl

pub font_name_is : (p : Parts) (o : Offsets) → last_of font_name_operator (tops p o) ≡ number_if (strings p) p.font_name
unfolding top_entries_by
font_name_is p o =
    passed None font_name_operator copyright_operator (strings p) p.copyright _ refl
    ∙ passed None font_name_operator notice_operator (strings p) p.notice _ refl
    ∙ met font_name_operator font_name_operator (strings p) p.font_name (following p o) refl
