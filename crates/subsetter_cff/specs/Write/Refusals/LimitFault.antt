-- What is too much for the new table (Technical Note 5176): a number that its field can't hold, or a real with too long
-- a text.
use Rattle.std.specs.Prelude.{◌≡◌, ◌≤◌, ◌+◌, ◌^◌, ℕ, Contains, true, List, [], ◌∷◌, length, Option, Some, None, Ok}
use Rattle.std.specs.List.{concat}
use Rattle.subsetter_base.specs.declared.error.Error.{Error}
use Rattle.subsetter_base.specs.declared.error.Error.TheVariants.{OverflowError}
use Rattle.subsetter_base.specs.Options.{◌>>=◌}
use Rattle.subsetter_cffdata.specs.Numerals.Numbers.{Number}
use Rattle.subsetter_cffdata.specs.Dicts.Dict.{Entry, dict}
use Rattle.subsetter_cff.specs.Read.Entries.Lookup.{last_of}
use Rattle.subsetter_cff.specs.Read.Cff.{Cff, is_cid_keyed}
use Rattle.subsetter_cff.specs.Read.FdArray.FontDicts.{font_dict_number, font_dict_of}
use Rattle.subsetter_cff.specs.Read.FdArray.Private.{private_entries}
use Rattle.subsetter_cff.specs.Read.Entries.Matrices.{own_matrix}
use Rattle.subsetter_cff.specs.Read.Entries.Operators.{font_matrix_operator, font_box_operator}
use Rattle.subsetter_cff.specs.Write.Laying.Layout.{FontDict, Parts, strings, private_bytes, top_entries, table_offsets}
use Rattle.subsetter_cff.specs.Write.Laying.Layout.{font_dicts_from, charset_offset, privates_offset, fd_select_offset}
use Rattle.subsetter_cff.specs.Write.Laying.Layout.{fd_array_offset, char_strings_offset}
use Rattle.subsetter_cff.specs.Write.Made.{new_matrix}
use Rattle.subsetter_cff.specs.Write.NewDicts.WrittenNumbers.{any_long, entry_numbers}
use Rattle.subsetter_cff.specs.Write.Plain.{with_number, KeptGlyph, kept_glyphs, parts_for}

-- the number of a glyph's font dict, where there is that font dict
abbrev pub dict_number : Cff → ℕ → Option ℕ
dict_number cff g = font_dict_of cff g >>= λ dict. font_dict_number cff g

-- such numbers of glyphs, ascending, each once
abbrev pub with_found : Option ℕ → List ℕ → List ℕ
with_found None ns = ns
with_found (Some n) ns = with_number n ns

abbrev pub dict_numbers : Cff → List ℕ → List ℕ
dict_numbers cff [] = []
dict_numbers cff (g ∷ gs) = with_found (dict_number cff g) (dict_numbers cff gs)

-- the parts that are laid out for a subset, before their sizes are judged
pub record AreDrafted (cff : Cff) (tokens depth : ℕ) (glyphs : List ℕ) (p : Parts) : Type 0 where
  pub kept : List KeptGlyph
  pub kept_are : kept_glyphs cff tokens depth glyphs ≡ Ok kept
  pub parts_are : parts_for cff kept ≡ Ok p

-- the INDEX structures that are written: top dict, strings, font dicts, charstrings
abbrev pub written_indexes : Parts → List (List (List ℕ))
written_indexes p =
    (dict (top_entries p (table_offsets p)) ∷ []) ∷ strings p
    ∷ font_dicts_from (strings p) (privates_offset p) p.font_dicts ∷ p.char_strings ∷ []

-- the lengths and offsets of private dicts that follow one another from a place on
abbrev pub private_offsets : ℕ → List FontDict → List ℕ
private_offsets place [] = []
private_offsets place (f ∷ fs) =
    length (private_bytes f) ∷ place ∷ private_offsets (place + length (private_bytes f)) fs

-- all offsets and private lengths that are written
abbrev pub written_offsets : Parts → List ℕ
written_offsets p =
    char_strings_offset p ∷ charset_offset p ∷ fd_array_offset p ∷ fd_select_offset p
    ∷ private_offsets (privates_offset p) p.font_dicts

pub data HasLimitFault (cff : Cff) (tokens depth : ℕ) (glyphs : List ℕ) : Error → Type 0 where
  -- 256 used font dicts
  many_font_dicts : is_cid_keyed cff ≡ true → 256 ≤ length (dict_numbers cff glyphs)
      → HasLimitFault cff tokens depth glyphs OverflowError
  -- a real that is written and whose text is too long: in the top dict
  long_matrix : (xs : List Number) → last_of font_matrix_operator cff.top ≡ Some xs → length xs ≡ 6 → any_long xs ≡ true
      → HasLimitFault cff tokens depth glyphs OverflowError
  long_box : (xs : List Number) → last_of font_box_operator cff.top ≡ Some xs → length xs ≡ 4 → any_long xs ≡ true
      → HasLimitFault cff tokens depth glyphs OverflowError
  -- in the matrix that is written for a used font dict
  long_own_matrix : (g : ℕ) (own m : List Number) → Contains glyphs g → own_matrix cff g ≡ Some (Some own)
      → length own ≡ 6 → new_matrix (last_of font_matrix_operator cff.top) (Some own) ≡ Some m → any_long m ≡ true
      → HasLimitFault cff tokens depth glyphs OverflowError
  -- in its private dict, but for the entries that lead to subroutines
  long_private : (g : ℕ) (es : List Entry) → Contains glyphs g → private_entries cff g ≡ Some es
      → any_long (entry_numbers es) ≡ true
      → HasLimitFault cff tokens depth glyphs OverflowError
  -- the data of an INDEX, or an offset or private length, is too large
  large_index : (p : Parts) (items : List (List ℕ)) → AreDrafted cff tokens depth glyphs p
      → Contains (written_indexes p) items → 2 ^ 32 ≤ length (concat items) + 1
      → HasLimitFault cff tokens depth glyphs OverflowError
  large_offset : (p : Parts) (n : ℕ) → AreDrafted cff tokens depth glyphs p → Contains (written_offsets p) n
      → 2 ^ 31 ≤ n
      → HasLimitFault cff tokens depth glyphs OverflowError
