-- Whether a glyph has an outline (OpenType, "loca", "glyf", "CFF2"; Technical Notes 5176 and 5177). What can't be read
-- is none.
use Rattle.std.specs.Prelude.{ℕ, ◌+◌, ◌==◌, ◌||◌, not, Bool, true, false, List, [], ◌∷◌, Option, Some, None, codes}
use Rattle.std.specs.Option.{option_map, option_map_or}
use Rattle.std.specs.Result.{result_ok}
use Rattle.subsetter_base.specs.Bytes.{number, between_offsets}
use Rattle.subsetter_base.specs.Options.{◌>>=◌}
use Rattle.subsetter_sfnt.specs.Fields.Head.{index_to_loc_format}
use Rattle.subsetter_sfnt.specs.Fields.Loca.{loca_offset}
use Rattle.subsetter_cffdata.specs.Dicts.Dict.{entries}
use Rattle.subsetter_cffdata.specs.Numerals.CharStringNumber.{number_at}
use Rattle.subsetter_type2.specs.Subroutines.{entry_at}
use Rattle.subsetter_cff.specs.Read.Cff.{char_strings}
use Rattle.subsetter_cff.specs.Read.Entries.Lookup.{last_of}
use Rattle.subsetter_cff.specs.Read.Entries.Operators.{char_strings_operator}
use Rattle.subsetter_cff.specs.Read.Opened.{opened}
use Rattle.subsetter_cff2.specs.Cff2.{named_index}
use Rattle.subsetter_cff2.specs.Front2.{front_at}

-- those of `glyf`, with `loca` and whether its entries have four bytes; or the entries of a CharStrings INDEX
pub data Outlines : Type 0 where
  contours : Bool → List ℕ → List ℕ → Outlines
  charstrings : List (Option (List ℕ)) → Outlines

-- ---- where they are

abbrev pub contours_by : List ℕ → Option (List ℕ) → Option (List ℕ) → Option Outlines
contours_by glyf head loca = do
  bytes ← head
  offsets ← loca
  format ← index_to_loc_format bytes
  Some (contours (not (format == 0)) offsets glyf)

-- the CharStrings INDEX of a `CFF ` that can be opened
abbrev pub entries_of : List ℕ → Option (List (Option (List ℕ)))
entries_of cff = result_ok (opened cff) >>= char_strings

-- that of a `CFF2`, which its top dict names
abbrev pub entries_of_2 : List ℕ → Option (List (Option (List ℕ)))
entries_of_2 cff = front_at cff >>= λ front. named_index cff (last_of char_strings_operator (entries front.0))

abbrev pub charstrings_by : Option (List ℕ) → Option (List ℕ) → Option (List (Option (List ℕ)))
charstrings_by (Some cff) cff2 = entries_of cff
charstrings_by None cff2 = cff2 >>= entries_of_2

-- `glyf` goes before `CFF `, and that before `CFF2`
abbrev pub outlines_by : Option (List ℕ) → (List ℕ → Option (List ℕ)) → Option Outlines
outlines_by (Some glyf) find = contours_by glyf (find (codes "head")) (find (codes "loca"))
outlines_by None find = option_map charstrings (charstrings_by (find (codes "CFF ")) (find (codes "CFF2")))

-- ---- whether a glyph has one

-- numberOfContours, the first two bytes of a glyph description, which is between two entries of `loca`
unfoldable pub number_of_contours : Bool → List ℕ → List ℕ → ℕ → Option ℕ
number_of_contours long loca glyf g = do
  from ← loca_offset loca long g
  to ← loca_offset loca long (g + 1)
  description ← between_offsets glyf from to
  number description 0 2

-- nothing is left of a charstring, or endchar alone (section 4.3 "Finishing a Path")
abbrev pub is_end : List ℕ → Bool
is_end [] = true
is_end (b ∷ []) = b == 14
is_end (b ∷ c ∷ bytes) = false

-- it ends at once, or after a number, which is a width
abbrev pub is_bare : List ℕ → Bool
is_bare charstring = is_end charstring || option_map_or (λ read. is_end read.1) (number_at charstring) false

-- an outline without contours is none, and neither is a bare charstring
abbrev pub draws : Outlines → ℕ → Bool
draws (contours long loca glyf) g = option_map_or (λ n. not (n == 0)) (number_of_contours long loca glyf g) false
draws (charstrings index) g = option_map_or (λ charstring. not (is_bare charstring)) (entry_at index g) false

abbrev pub has_outline : Option Outlines → ℕ → Bool
has_outline outlines g = option_map_or (λ it. draws it g) outlines false
