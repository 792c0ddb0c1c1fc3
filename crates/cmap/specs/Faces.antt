-- The mapping of characters of a face.
use Rattle.std.specs.Prelude.{Option, codes}
use Rattle.std.specs.Option.{option_and_then}
use Rattle.subsetter_sfnt.specs.Read.{Font, stored}
use Rattle.cmap.specs.Subtable.{Mapping, mapping}

-- the table of a face's `cmap` by which Unicode characters have glyphs
abbrev pub face_mapping : Font → Option Mapping
face_mapping font = option_and_then mapping (stored font (codes "cmap"))
