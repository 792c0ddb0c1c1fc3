-- What is noted of coordinates, of characters and of a face that a font doesn't have.
use Rattle.std.specs.Prelude.{ℕ, ℤ, List, [], ◌∷◌, ◌++◌, map, Option, codes}
use Rattle.subsetter_base.specs.declared.tag.Tag.{Tag}
use Rattle.subsetter_variation.specs.declared.locations.axes.Axis.{Axis}
use Rattle.plain_text.specs.Characters.{shown}
use Rattle.plain_text.specs.Fixed.{fixed_text}
use Rattle.subset_lines.specs.Index.{index_line, index_string}
use Rattle.subset_lines.specs.Missing.{missing_line, missing_string}
use Rattle.plain_text.specs.Quoted.{quoted}
use Rattle.subset_lines.specs.declared.notes.Note.{Note}
use Rattle.subset_lines.specs.declared.notes.Note.TheVariants.{NoAxis, Clamped}

-- `no axis wdth in the font`, `wght=1000 is clamped to 900`
unfoldable pub clamped_text : Tag → ℤ → ℤ → List ℕ
clamped_text tag given taken =
    map shown tag.0 ++ codes "=" ++ fixed_text given ++ codes " is clamped to " ++ fixed_text taken

abbrev pub note_text : Note → List ℕ
note_text (NoAxis tag) = codes "no axis " ++ map shown tag.0 ++ codes " in the font"
note_text (Clamped tag given taken) = clamped_text tag given taken

-- `wght 100 to 900`
unfoldable pub range_text : Axis → List ℕ
range_text a = map shown a.tag.0 ++ codes " " ++ fixed_text a.minimum ++ codes " to " ++ fixed_text a.maximum

-- with a text before the first, and a comma between each two
abbrev pub ranges_text : List ℕ → List Axis → List ℕ
ranges_text before [] = []
ranges_text before (a ∷ axes) = (before ++ range_text a) ++ ranges_text (codes ", ") axes

abbrev pub axes_note : List Axis → List ℕ
axes_note [] = codes "axes: none"
axes_note (a ∷ axes) = codes "axes: " ++ ranges_text [] (a ∷ axes)

abbrev pub note_lines : List Note → List ℕ
note_lines [] = []
note_lines (note ∷ notes) = (note_text note ++ codes "\n") ++ note_lines notes

-- a line for each note, and one for the axes; nothing where there are no notes
abbrev pub notes_text : List Axis → List Note → List ℕ
notes_text axes [] = []
notes_text axes (note ∷ notes) = note_lines (note ∷ notes) ++ axes_note axes ++ codes "\n"

-- one for the characters without a glyph, and one for the face
abbrev pub all_text : List Axis → List Note → List ℕ → Option ℕ → List ℕ
all_text axes notes characters index = notes_text axes notes ++ missing_line characters ++ index_line index

-- the same as an array of strings
abbrev pub note_strings : List Note → List ℕ
note_strings [] = []
note_strings (note ∷ notes) = (quoted (note_text note) ++ codes ",") ++ note_strings notes

abbrev pub coordinate_strings : List Axis → List Note → List ℕ
coordinate_strings axes [] = []
coordinate_strings axes (note ∷ notes) = note_strings (note ∷ notes) ++ quoted (axes_note axes)

abbrev pub comma_after : List Note → List ℕ
comma_after [] = []
comma_after (note ∷ notes) = codes ","

abbrev pub comma_after_both : List Note → List ℕ → List ℕ
comma_after_both notes [] = comma_after notes
comma_after_both notes (c ∷ characters) = codes ","

abbrev pub notes_array : List Axis → List Note → List ℕ → Option ℕ → List ℕ
notes_array axes notes characters index =
    codes "[" ++ coordinate_strings axes notes ++ missing_string (comma_after notes) characters
    ++ index_string (comma_after_both notes characters) index ++ codes "]"
