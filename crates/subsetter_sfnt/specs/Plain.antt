-- The plain way to open a font and to lay one out, with the error that is returned for each part that is missing and
-- for a size past a limit.
use Rattle.std.specs.Prelude.{ℕ, List, codes, Option, Result, Ok, Err, is_some, if◌then◌else◌}
use Rattle.std.specs.Option.{ok_or}
use Rattle.subsetter_base.specs.Bytes.{◌>>=◌}
use Rattle.subsetter_base.specs.declared.error.Error.{Error}
use Rattle.subsetter_base.specs.declared.error.Error.TheVariants.{UnknownKind, MalformedFont, Unimplemented}
use Rattle.subsetter_base.specs.declared.error.Error.TheVariants.{OverflowError}
use Rattle.subsetter_sfnt.specs.declared.face.FontKind.{FontKind}
use Rattle.subsetter_sfnt.specs.declared.face.FontKind.TheVariants.{Collection, Single}
use Rattle.subsetter_sfnt.specs.declared.flavor.FontFlavor.{FontFlavor}
use Rattle.subsetter_sfnt.specs.declared.flavor.FontFlavor.TheVariants.{TrueType, Cff}
use Rattle.subsetter_sfnt.specs.Laying.Written.{Table, start_of, fits, file}
use Rattle.subsetter_sfnt.specs.Read.{Font, kind_at, collection_entry, if_single, records_at}

abbrev pub opened_by_kind : FontKind → Font → Result ℕ Error
opened_by_kind Single font = Ok 0
opened_by_kind Collection font = do
  at ← ok_or (collection_entry font) MalformedFont
  kind ← ok_or (kind_at font.bytes at) MalformedFont
  ok_or (if_single kind at) MalformedFont

-- where the font's header is
unfoldable pub opened_header : Font → Result ℕ Error
opened_header font = do
  kind ← ok_or (kind_at font.bytes 0) UnknownKind
  opened_by_kind kind font

-- the bytes of the directory's records
unfoldable pub opened : Font → Result (List ℕ) Error
opened font = do
  at ← opened_header font
  ok_or (records_at font.bytes at) MalformedFont

-- the kind of the outlines that are taken, among the tables that a look-up finds
unfoldable pub flavored : (List ℕ → Option (List ℕ)) → Result FontFlavor Error
flavored find =
    if is_some (find (codes "glyf")) then Ok TrueType
    else (if is_some (find (codes "CFF ")) then Ok Cff
    else (if is_some (find (codes "CFF2")) then Err Unimplemented else Err UnknownKind))

-- the file, where its records can say where its tables are
unfoldable pub file_of : ℕ → List Table → Result (List ℕ) Error
file_of kind ts = if fits (start_of ts) ts then Ok (file kind ts) else Err OverflowError
