-- The faults that stop a table at coordinates, each with its error (OpenType, "CFF2").
use Rattle.std.specs.Prelude.{◌≡◌, ◌<◌, ◌≤◌, ◌+◌, ◌^◌, ℕ, pos, true, List, length, slice_get, Option, Some, None, Ok}
use Rattle.std.specs.Prelude.{Err}
use Rattle.std.specs.List.{concat}
use Rattle.subsetter_base.specs.declared.error.Error.{Error}
use Rattle.subsetter_base.specs.declared.error.Error.TheVariants.{MalformedFont, OverflowError}
use Rattle.subsetter_cffdata.specs.Dicts.Dict.{entries}
use Rattle.subsetter_cffdata.specs.Numerals.Numbers.{Number}
use Rattle.subsetter_cff.specs.Read.Entries.Lookup.{last_of}
use Rattle.subsetter_cff.specs.Read.Entries.Operators.{char_strings_operator, font_dicts_operator}
use Rattle.subsetter_cff.specs.Read.Entries.Operators.{font_dict_select_operator}
use Rattle.subsetter_cff.specs.Write.Laying.Layout.{char_strings_offset}
use Rattle.subsetter_cff.specs.Write.NewDicts.WrittenNumbers.{any_long, entry_numbers}
use Rattle.subsetter_cff2.specs.Cff2.{Cff2, wide_index, named_index, optional_offset, store_by, cff2_parts}
use Rattle.subsetter_cff2.specs.Front2.{front_at}
use Rattle.subsetter_cff2.specs.Made2.{new_parts}
use Rattle.subsetter_cff2.specs.Operators2.{store_operator}
use Rattle.subsetter_cff2.specs.PrivateDicts.Private2.{Private2, font_dict_number, private_numbered, char_string}
use Rattle.subsetter_cff2.specs.PrivateDicts.PrivateAt.{Placed, private_at_location}
use Rattle.subsetter_cff2.specs.Selection.UsedDicts.{used_dicts}
use Rattle.subsetter_cff2.specs.Variation.{Variation, optional_variation}
use Rattle.subsetter_cff_at.specs.Plain.{dict_bound, numbers_from, present, setting, Drawn, drawn, drawn_box, Opened}
use Rattle.subsetter_cff_at.specs.Plain.{opened, all_filled, made_table}
use Rattle.subsetter_cff_at.specs.PrivateFault.{HasPrivateFault}
use Rattle.subsetter_cff_at.specs.Request.{Request}
use Rattle.subsetter_cff_at.specs.RunFault.{HasCharstringFault}
use Rattle.subsetter_cff_at.specs.Units.{top_matrix}

-- ---- of the table as a whole
pub data HasOpeningFault (bytes : List ℕ) (r : Request) : Error → Type 0 where
  -- the front is cut, of another major version than 2, or its header has fewer than 5 bytes ("Header")
  bad_front : front_at bytes ≡ None → HasOpeningFault bytes r MalformedFont
  -- no global subroutines can be read after the top dict
  bad_subroutines : (top : List ℕ) (following : ℕ) → front_at bytes ≡ Some (top, following)
      → wide_index bytes following ≡ None
      → HasOpeningFault bytes r MalformedFont
  -- the top dict leads to no charstrings, or to no font dicts
  bad_char_strings : (top : List ℕ) (following : ℕ) → front_at bytes ≡ Some (top, following)
      → named_index bytes (last_of char_strings_operator (entries top)) ≡ None
      → HasOpeningFault bytes r MalformedFont
  bad_font_dicts : (top : List ℕ) (following : ℕ) → front_at bytes ≡ Some (top, following)
      → named_index bytes (last_of font_dicts_operator (entries top)) ≡ None
      → HasOpeningFault bytes r MalformedFont
  -- the operands of its VariationStore are no offset, or it leads to no item variation store of as many axes
  bad_store_offset : (top : List ℕ) (following : ℕ) → front_at bytes ≡ Some (top, following)
      → optional_offset (last_of store_operator (entries top)) ≡ None
      → HasOpeningFault bytes r MalformedFont
  bad_store : (top : List ℕ) (following : ℕ) (offset : Option ℕ) → front_at bytes ≡ Some (top, following)
      → optional_offset (last_of store_operator (entries top)) ≡ Some offset
      → store_by bytes (length r.at) offset ≡ None
      → HasOpeningFault bytes r MalformedFont
  -- the operands of its FDSelect are no offset
  bad_select : (top : List ℕ) (following : ℕ) → front_at bytes ≡ Some (top, following)
      → optional_offset (last_of font_dict_select_operator (entries top)) ≡ None
      → HasOpeningFault bytes r MalformedFont
  -- its FontMatrix isn't six numbers
  bad_matrix : (cff : Cff2) → cff2_parts bytes (length r.at) ≡ Some cff → top_matrix cff r.units ≡ None
      → HasOpeningFault bytes r MalformedFont
  -- a region of the item variation store can't be read
  bad_region : (cff : Cff2) → cff2_parts bytes (length r.at) ≡ Some cff → optional_variation cff.store r.at ≡ None
      → HasOpeningFault bytes r MalformedFont

-- ---- of a requested glyph
pub data HasGlyphFault (cff : Cff2) (v : Option Variation) (tokens depth glyph advance : ℕ) : Error → Type 0 where
  -- it has no font dict number, or there is no font dict of that number ("FDSelect")
  no_number : font_dict_number cff glyph ≡ None → HasGlyphFault cff v tokens depth glyph advance MalformedFont
  no_font_dict : (number : ℕ) → font_dict_number cff glyph ≡ Some number → dict_bound cff ≤ number
      → HasGlyphFault cff v tokens depth glyph advance MalformedFont
  -- its font dict leads to no private dict, or that leads to no subroutines
  no_private : (number : ℕ) → font_dict_number cff glyph ≡ Some number → private_numbered cff number ≡ None
      → HasGlyphFault cff v tokens depth glyph advance MalformedFont
  -- an entry of its private dict: more than 513 operands, or a blend or a vsindex with wrong operands, which is
  -- MalformedFont, or a real that is kept and whose text is too long, which is OverflowError ("Private DICT Data")
  bad_private : (number : ℕ) (private : Private2) (e : Error) → font_dict_number cff glyph ≡ Some number
      → private_numbered cff number ≡ Some private → HasPrivateFault v private.dict e
      → HasGlyphFault cff v tokens depth glyph advance e
  long_private : (number : ℕ) (private : Private2) (at_place : Placed) → font_dict_number cff glyph ≡ Some number
      → private_numbered cff number ≡ Some private → private_at_location v private.dict ≡ Some at_place
      → any_long (entry_numbers at_place.entries) ≡ true → HasGlyphFault cff v tokens depth glyph advance OverflowError
  -- it has no charstring
  no_char_string : char_string cff glyph ≡ None → HasGlyphFault cff v tokens depth glyph advance MalformedFont
  -- a token of it, its end, a limit, or a number that is written ("CFF2 CharString Format")
  stops : (number : ℕ) (private : Private2) (at_place : Placed) (charstring : List ℕ) (e : Error)
      → font_dict_number cff glyph ≡ Some number → private_numbered cff number ≡ Some private
      → private_at_location v private.dict ≡ Some at_place
      → char_string cff glyph ≡ Some charstring
      → HasCharstringFault (setting cff v private.subroutines)
      tokens depth at_place.data_index (pos advance) charstring e
      → HasGlyphFault cff v tokens depth glyph advance e
  -- its advance is past the numbers of a charstring
  wide_advance : 32767 < advance → HasGlyphFault cff v tokens depth glyph advance OverflowError

-- ---- of the new table's sizes
pub data HasLimitFault (cff : Cff2) (v : Option Variation) (r : Request) (tokens depth : ℕ) : Error → Type 0 where
  -- 256 font dicts that requested glyphs have
  many_font_dicts : (numbers : List (Option ℕ)) → numbers_from cff 0 r.glyphs ≡ Ok numbers
      → 256 ≤ length (used_dicts (dict_bound cff) (present numbers))
      → HasLimitFault cff v r tokens depth OverflowError
  -- a real of FontMatrix whose text is too long
  long_matrix : (matrix : List Number) → top_matrix cff r.units ≡ Some (Some matrix) → any_long matrix ≡ true
      → HasLimitFault cff v r tokens depth OverflowError
  -- the charstrings have 4 GiB, or an offset is past 2147483647
  large_char_strings : (d : Drawn) → drawn cff v tokens depth r.glyphs ≡ Ok d
      → 2 ^ 32 ≤ length (concat (all_filled d.texts)) + 1
      → HasLimitFault cff v r tokens depth OverflowError
  large_offset : (d : Drawn) (matrix : Option (List Number)) → drawn cff v tokens depth r.glyphs ≡ Ok d
      → top_matrix cff r.units ≡ Some matrix
      → 2 ^ 31 ≤ char_strings_offset (new_parts matrix (drawn_box d) d.dicts d.places (all_filled d.texts))
      → HasLimitFault cff v r tokens depth OverflowError

-- ---- all
pub data HasFault (bytes : List ℕ) (r : Request) (tokens depth : ℕ) : Error → Type 0 where
  -- no glyph is requested
  none_requested : ((glyph advance : ℕ) → slice_get r.glyphs glyph ≡ Some (Some advance) → ⊥)
      → HasFault bytes r tokens depth MalformedFont
  in_opening : {e : Error} → HasOpeningFault bytes r e → HasFault bytes r tokens depth e
  in_glyph : {e : Error} (o : Opened) (glyph advance : ℕ) → opened bytes r ≡ Ok o
      → slice_get r.glyphs glyph ≡ Some (Some advance) → HasGlyphFault o.cff o.variation tokens depth glyph advance e
      → HasFault bytes r tokens depth e
  in_limits : {e : Error} (o : Opened) → opened bytes r ≡ Ok o → HasLimitFault o.cff o.variation r tokens depth e
      → HasFault bytes r tokens depth e

-- what is refused has a fault with that error
abbrev pub RefusedHasFault : Type 0
RefusedHasFault =
    (bytes : List ℕ) (r : Request) (tokens depth : ℕ) (e : Error) → made_table bytes r tokens depth ≡ Err e
    → HasFault bytes r tokens depth e

-- where a table is made, there is no fault
abbrev pub MadeExcludes : Type 0
MadeExcludes =
    (bytes : List ℕ) (r : Request) (tokens depth : ℕ) (out : List ℕ) (e : Error)
    → made_table bytes r tokens depth ≡ Ok out → HasFault bytes r tokens depth e
    → ⊥
