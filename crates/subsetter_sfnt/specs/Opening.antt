-- Opening a font: its directory, and the kind of its outlines.
use Rattle.std.specs.Prelude.{◌≡◌, ℕ, List, codes, Option, Result, Ok, Err, is_some, if◌then◌else◌}
use Rattle.subsetter_base.specs.Bytes.{◌>>=◌, IsBytes}
use Rattle.subsetter_base.specs.declared.error.Error.{Error}
use Rattle.subsetter_base.specs.declared.error.Error.TheVariants.{UnknownKind, Unimplemented}
use Rattle.subsetter_sfnt.specs.declared.flavor.FontFlavor.{FontFlavor}
use Rattle.subsetter_sfnt.specs.declared.flavor.FontFlavor.TheVariants as flavors
use Rattle.subsetter_sfnt.specs.declared.opening.Opened.{Opened}
use Rattle.subsetter_sfnt.specs.declared.opening.Outlines.{Outlines}
use Rattle.subsetter_sfnt.specs.declared.opening.Outlines.TheVariants.{TrueType, Cff, Cff2}
use Rattle.subsetter_sfnt.specs.FontAt.{font_at}
use Rattle.subsetter_sfnt.specs.Plain.{opened}
use Rattle.subsetter_sfnt.specs.Read.{Font, table_in}

-- the kind of the outlines, among the tables that a look-up finds
unfoldable pub outlines_by : (List ℕ → Option (List ℕ)) → Result Outlines Error
outlines_by find =
    if is_some (find (codes "glyf")) then Ok TrueType else (if is_some (find (codes "CFF ")) then Ok Cff else
    (if is_some (find (codes "CFF2")) then Ok Cff2 else Err UnknownKind))

-- what opening finds: the bytes of the directory's records, and the kind of the outlines
unfoldable pub opened_as : Font → Result (List ℕ × Outlines) Error
opened_as font = do
  records ← opened font
  outlines ← outlines_by (table_in font.bytes records)
  Ok (records, outlines)

-- the font that was opened
abbrev pub font_opened : Opened → Font
font_opened o = font_at o.face.«data».now o.index o.face.extras

-- and that opening it finds this
pub record IsOpened (o : Opened) : Type 0 where
  pub finds : opened_as (font_opened o) ≡ Ok (o.face.records.now, o.outlines)
  pub bytes : IsBytes o.face.«data».now

-- of its outlines those that a file can be written with
abbrev pub flavor_of : Outlines → Result FontFlavor Error
flavor_of TrueType = Ok flavors.TrueType
flavor_of Cff = Ok flavors.Cff
flavor_of Cff2 = Err Unimplemented
