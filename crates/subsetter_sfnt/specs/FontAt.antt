-- A font as it is asked for, and the tables of one that was opened.
use Rattle.std.specs.Prelude.{ℕ, List, Option}
use Rattle.subsetter_sfnt.specs.declared.extras.Extras.{Extras}
use Rattle.subsetter_sfnt.specs.declared.face.Face.{Face}
use Rattle.subsetter_sfnt.specs.Extras.{requested}
use Rattle.subsetter_sfnt.specs.Read.{Font, table_in}

-- a file, which font of a collection is meant, and what is asked for of it
abbrev pub font_at : List ℕ → ℕ → Extras → Font
font_at bytes index extras = record { bytes = bytes; index = index; extras = extras }

-- the look-up of the tables that are asked for
abbrev pub tables_of : Face → List ℕ → Option (List ℕ)
tables_of face = requested face.extras (table_in face.«data».now face.records.now)
