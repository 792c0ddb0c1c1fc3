-- A font file: its kind, its directory and its tables (OpenType, "Organization of an OpenType Font").
use Rattle.std.specs.Prelude.{ℕ, zero, suc, ◌+◌, ◌*◌, ◌/◌, List, [], ◌∷◌, length, take, drop, codes, Option, Some, None}
use Rattle.std.specs.Prelude.{is_some, find, ◌==◌, if◌then◌else◌}
use Rattle.std.specs.Option.{option_and_then, option_map}
use Rattle.std.specs.Str.{bytes_eq}
use Rattle.subsetter_base.specs.Bytes.{be, range, number}
use Rattle.subsetter_base.specs.Options.{◌>>=◌}
use Rattle.subsetter_sfnt.specs.Extras.{all_extras, requested}
use Rattle.subsetter_sfnt.specs.declared.face.TableRecord.{TableRecord}
use Rattle.subsetter_sfnt.specs.declared.face.FontKind.{FontKind}
use Rattle.subsetter_sfnt.specs.declared.face.FontKind.TheVariants.{Collection, Single}
use Rattle.subsetter_sfnt.specs.declared.extras.Extras.{Extras}
use Rattle.subsetter_sfnt.specs.declared.flavor.FontFlavor.{FontFlavor}
use Rattle.subsetter_sfnt.specs.declared.flavor.FontFlavor.TheVariants.{TrueType, Cff}

-- a file, which font of a collection is meant, and what is asked for of it besides outlines and metrics
pub record Font : Type 0 where
  pub bytes : List ℕ
  pub index : ℕ
  pub extras : Extras

-- a file that holds one font, as it is
abbrev pub as_font : List ℕ → Font
as_font bytes = record { bytes = bytes; index = 0; extras = all_extras }

-- 0x00010000, `true` and `OTTO` begin a font, `ttcf` a collection
abbrev pub kind_of : ℕ → Option FontKind
kind_of word =
    if word == 0x00010000 then Some Single
    else (if word == 0x74727565 then Some Single
    else (if word == 0x4F54544F then Some Single else (if word == 0x74746366 then Some Collection else None)))

-- the kind that the word at a place names
abbrev pub kind_at : List ℕ → ℕ → Option FontKind
kind_at bytes at = option_and_then kind_of (number bytes at 4)

-- in a collection, the four bytes that say where the font of the index begins (TTCHeader.tableDirectoryOffsets);
-- numFonts isn't looked at
abbrev pub collection_entry : Font → Option ℕ
collection_entry font = number font.bytes (12 + 4 * font.index) 4

-- a collection holds single fonts alone
abbrev pub if_single : FontKind → ℕ → Option ℕ
if_single Single at = Some at
if_single Collection at = None

abbrev pub header_by_kind : FontKind → Font → Option ℕ
header_by_kind Single font = Some 0
header_by_kind Collection font = do
  at ← collection_entry font
  kind ← kind_at font.bytes at
  if_single kind at

-- where the font's header is: at the start, or in a collection where the entry of the index says
unfoldable pub header_offset : Font → Option ℕ
header_offset font = do
  kind ← kind_at font.bytes 0
  header_by_kind kind font

-- a record of the directory: tag, checksum, offset and length, four bytes each
abbrev pub record_of : List ℕ → TableRecord
record_of bytes =
    record {
      tag = record { 0 = take 4 bytes };
      checksum = be (take 4 (drop 4 bytes));
      offset = be (take 4 (drop 8 bytes));
      length = be (take 4 (drop 12 bytes));
    }

-- the next n table records, of 16 bytes each
abbrev pub directory_records : ℕ → List ℕ → List TableRecord
directory_records zero bytes = []
directory_records (suc n) bytes = record_of bytes ∷ directory_records n (drop 16 bytes)

-- the bytes of the directory's records: 16 for each of the number at byte 4 of the header, from byte 12 on
unfoldable pub records_at : List ℕ → ℕ → Option (List ℕ)
records_at bytes at = option_and_then (λ count. range bytes (at + 12) (16 * count)) (number bytes (at + 4) 2)

abbrev pub records : Font → Option (List ℕ)
records font = do
  at ← header_offset font
  records_at font.bytes at

-- the records of the directory
abbrev pub directory : Font → Option (List TableRecord)
directory font = option_map (λ bytes. directory_records (length bytes / 16) bytes) (records font)

-- the first record that bears a tag
abbrev pub find_record : List ℕ → List TableRecord → Option TableRecord
find_record tag es = find (λ e. bytes_eq e.tag.0 tag) es

-- the bytes that records name by a tag, if the file has them
abbrev pub table_in : List ℕ → List ℕ → List ℕ → Option (List ℕ)
table_in bytes directory tag =
    option_and_then (λ e. range bytes e.offset e.length)
    (find_record tag (directory_records (length directory / 16) directory))

-- the table of a tag in the file: the range of the first record that bears it, none where that range leaves the file
abbrev pub stored : Font → List ℕ → Option (List ℕ)
stored font tag = option_and_then (λ directory. table_in font.bytes directory tag) (records font)

-- the same, as far as it is asked for
abbrev pub table : Font → List ℕ → Option (List ℕ)
table font = requested font.extras (stored font)

-- `glyf` makes a font TrueType, else `CFF ` makes it CFF
abbrev pub flavor : Font → Option FontFlavor
flavor font =
    if is_some (table font (codes "glyf")) then Some TrueType
    else (if is_some (table font (codes "CFF ")) then Some Cff else None)
