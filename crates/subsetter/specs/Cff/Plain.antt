-- The plain way to a subset with a CFF table: its tables for the given glyphs, with the error that is returned where
-- one can't be made.
use Rattle.std.specs.Prelude.{ℕ, List, codes, false, Option, Some, Result, Ok}
use Rattle.std.specs.Option.{ok_or}
use Rattle.subsetter_base.specs.Bytes.{◌>>=◌}
use Rattle.subsetter_base.specs.declared.error.Error.{Error}
use Rattle.subsetter_base.specs.declared.error.Error.TheVariants.{MalformedFont}
use Rattle.subsetter_cff.specs.Write.Plain.{cff_subset}
use Rattle.subsetter_sfnt.specs.declared.flavor.FontFlavor.TheVariants.{Cff}
use Rattle.subsetter_sfnt.specs.Laying.Written.{Table, kind_word}
use Rattle.subsetter_sfnt.specs.Plain.{file_of}
use Rattle.subsetter_sfnt.specs.Laying.Rows.{FontTables, rows, present}
use Rattle.subsetter.specs.Common.Shared.Plain.{SharedTables, shared_of, with_shared}

-- what is made for the new font
pub record Made : Type 0 where
  pub cff : List ℕ
  pub shared : SharedTables

-- of the source's CFF table, within two limits on the run of a charstring; a font without loca has its short format
unfoldable pub made_of : (List ℕ → Option (List ℕ)) → List ℕ → ℕ → ℕ → List ℕ → Result Made Error
made_of find source tokens depth glyphs = do
  cff ← cff_subset source tokens depth glyphs
  shared ← shared_of find Cff false glyphs
  Ok (record { cff = cff; shared = shared })

-- the tables that are there
abbrev pub font_of : Made → FontTables
font_of m = record (with_shared m.shared) { cff = Some m.cff }

-- the same in ascending order of their tags
abbrev pub laid : Made → List Table
laid m = present (rows (font_of m))

-- the tables of a subset for the given glyphs
unfoldable pub cff_tables : (List ℕ → Option (List ℕ)) → List ℕ → ℕ → ℕ → List ℕ → Result (List Table) Error
cff_tables find source tokens depth glyphs = do
  m ← made_of find source tokens depth glyphs
  Ok (laid m)

-- and their file, where the source has a CFF table
unfoldable pub cff_file : (List ℕ → Option (List ℕ)) → ℕ → ℕ → List ℕ → Result (List ℕ) Error
cff_file find tokens depth glyphs = do
  source ← ok_or (find (codes "CFF ")) MalformedFont
  m ← made_of find source tokens depth glyphs
  file_of (kind_word Cff) (laid m)
