-- Further members of the JSON object of a subset.
use Rattle.std.specs.Prelude.{ℕ, List, [], ◌++◌, Option, Some, None, codes}
use Rattle.subsetter_variation.specs.declared.locations.axes.Axis.{Axis}
use Rattle.subset_lines.specs.Notes.{notes_array}
use Rattle.subset_lines.specs.Faces.Sizes.{sizes_member, tables_member}
use Rattle.subset_lines.specs.declared.notes.Note.{Note}
use Rattle.subset_lines.specs.declared.faces.sizes.TableSize.{TableSize}

abbrev pub tables_or_nothing : Option (List TableSize) → List ℕ
tables_or_nothing None = []
tables_or_nothing (Some tables) = tables_member tables

-- the sizes of both files, their tables, if they are given, and notes on coordinates, on characters without a glyph,
-- and on the face
abbrev pub members : ℕ → ℕ → Option (List TableSize) → List Axis → List Note → List ℕ → Option ℕ → List ℕ
members old new tables axes notes characters index =
    sizes_member old new ++ tables_or_nothing tables ++ codes ",\"notes\":" ++ notes_array axes notes characters index
