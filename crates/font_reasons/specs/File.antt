-- What is wrong with a file as a whole: its first bytes, its table directory, and tables that end past the end of the
-- file.
use Rattle.std.specs.Prelude.{ℕ, ◌+◌, ◌==◌, nat_lt, if◌then◌else◌, List, length, Option, Some, None}
use Rattle.std.specs.Option.{option_and_then}
use Rattle.subsetter_base.specs.Bytes.{number, range}
use Rattle.subsetter_base.specs.declared.tag.Tag.{Tag}
use Rattle.subsetter_sfnt.specs.Read.{Font, kind_at, header_offset, find_record, records}
use Rattle.subsetter_sfnt.specs.declared.face.FontKind.{FontKind}
use Rattle.subsetter_sfnt.specs.declared.face.TableRecord.{TableRecord}
use Rattle.font_reasons.specs.Directory.{bytes_or_none, records_in}
use Rattle.font_reasons.specs.declared.reason.Reason.{Reason}
use Rattle.font_reasons.specs.declared.reason.Reason.TheVariants.{Woff, Woff2, Type1, Eot, Pdf, Begins, NotFont, Empty}
use Rattle.font_reasons.specs.declared.reason.Reason.TheVariants.{NoFace, NoHeader, CutDirectory, Cut, NoTable}

-- the first that is there
abbrev pub or_else : {X : Type 0} → Option X → Option X → Option X
or_else (Some x) other = Some x
or_else None other = other

-- `wOFF` begins a WOFF, `wOF2` a WOFF2
abbrev pub packed_by : ℕ → Option Reason
packed_by word = if word == 0x774F4646 then Some Woff else (if word == 0x774F4632 then Some Woff2 else None)

abbrev pub packed : List ℕ → Option Reason
packed bytes = option_and_then packed_by (number bytes 0 4)

-- `%!` begins a Type 1 font, 0x80 and 1 its segments (Technical Note 5040), `%P` a PDF; MagicNumber 0x504C, low byte
-- first, is at byte 34 of an EOT
abbrev pub by_front : Option Tag → Reason
by_front None = NotFont
by_front (Some front) = Begins front

abbrev pub by_magic : Option ℕ → Option Tag → Reason
by_magic (Some word) front = if word == 0x4C50 then Eot else by_front front
by_magic None front = by_front front

abbrev pub other_format : Option ℕ → Option ℕ → Option Tag → Reason
other_format (Some word) magic front =
    if word == 0x2521 then Type1
    else (if word == 0x8001 then Type1 else (if word == 0x2550 then Pdf else by_magic magic front))
other_format None magic front = by_magic magic front

-- the first four bytes
abbrev pub front_of : List ℕ → Option Tag
front_of bytes = option_and_then (λ four. Some (record { 0 = four })) (range bytes 0 4)

-- a file that begins as no font does
abbrev pub not_font_by : List ℕ → Option FontKind → Option Reason
not_font_by bytes None = Some (other_format (number bytes 0 2) (number bytes 34 2) (front_of bytes))
not_font_by bytes (Some kind) = None

abbrev pub not_font : List ℕ → Option Reason
not_font bytes = if length bytes == 0 then Some Empty else not_font_by bytes (kind_at bytes 0)

-- how many faces a collection says that it has: `ttcf` begins one, and numFonts is at byte 8
abbrev pub face_count : List ℕ → Option ℕ
face_count bytes = option_and_then (λ word. if word == 0x74746366 then number bytes 8 4 else None) (number bytes 0 4)

-- a collection that has no face of the index
abbrev pub no_face : List ℕ → ℕ → Option Reason
no_face bytes index =
    option_and_then (λ count. if nat_lt index count then None else Some (NoFace index count)) (face_count bytes)

-- a face whose header isn't there, or whose directory isn't inside the file
abbrev pub no_directory_by : ℕ → Option ℕ → Option (List ℕ) → Option Reason
no_directory_by index None directory = Some (NoHeader index)
no_directory_by index (Some at) None = Some CutDirectory
no_directory_by index (Some at) (Some directory) = None

abbrev pub no_directory : Font → Option Reason
no_directory font = no_directory_by font.index (header_offset font) (records font)

-- what is wrong before a table is looked for
abbrev pub no_font : Font → Option Reason
no_font font =
    or_else (packed font.bytes)
    (or_else (not_font font.bytes) (or_else (no_face font.bytes font.index) (no_directory font)))

-- ---- tables that end past the end of the file

abbrev pub end_of : TableRecord → ℕ
end_of r = r.offset + r.length

abbrev pub cut_by : ℕ → TableRecord → Option Reason
cut_by size r = if nat_lt size (end_of r) then Some (Cut r.tag (end_of r) size) else None

-- the table of a tag does so
abbrev pub cut_table : Font → Tag → Option Reason
cut_table font tag =
    option_and_then (cut_by (length font.bytes)) (find_record tag.0 (records_in (bytes_or_none (records font))))

-- why a table isn't found: the directory has its record, and it is cut, or has none
abbrev pub missing_by : ℕ → Tag → Option TableRecord → Reason
missing_by size tag None = NoTable tag
missing_by size tag (Some r) = Cut tag (end_of r) size

abbrev pub missing_table : Font → Tag → Reason
missing_table font tag =
    missing_by (length font.bytes) tag (find_record tag.0 (records_in (bytes_or_none (records font))))
