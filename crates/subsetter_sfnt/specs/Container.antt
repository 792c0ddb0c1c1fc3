-- A sound font file, read afresh (OpenType, "Organization of an OpenType Font", "Table Directory", "Calculating
-- Checksums").
use Rattle.std.specs.Prelude.{◌≡◌, ℕ, ◌+◌, ◌-◌, ◌*◌, ◌%◌, ◌<◌, ◌≤◌, ◌^◌, List, [], ◌∷◌, length, map, codes, Some}
use Rattle.std.specs.Prelude.{IsSome, if◌then◌else◌}
use Rattle.std.specs.Str.{bytes_eq}
use Rattle.subsetter_base.specs.Bytes.{be, range, number, aligned}
use Rattle.subsetter_sfnt.specs.declared.face.TableRecord.{TableRecord}
use Rattle.subsetter_sfnt.specs.Read.{as_font, directory, table}
use Rattle.subsetter_sfnt.specs.Laying.Checksum.{checksum}
use Rattle.subsetter_sfnt.specs.Laying.Written.{with_adjustment}

-- `head` is summed with zeros in its bytes 8..12
abbrev pub summed : TableRecord → List ℕ → List ℕ
summed r bytes = if bytes_eq r.tag.0 (codes "head") then with_adjustment 0 bytes else bytes

-- a record names the table at a place by its length and its checksum, and zeros up to a multiple of four are after the
-- table
pub record NamesTable (file : List ℕ) (at : ℕ) (r : TableRecord) : Type 0 where
  pub offset : r.offset ≡ at
  pub bytes : List ℕ
  pub there : range file at r.length ≡ Some bytes
  pub zeros_after : range file at (length (aligned 4 bytes)) ≡ Some (aligned 4 bytes)
  pub sum : r.checksum ≡ checksum (summed r bytes)

-- how many bytes a length takes with zeros up to a multiple of four
abbrev pub padded_size : ℕ → ℕ
padded_size n = n + (4 - n % 4) % 4

-- the records name tables one after another from a place on, and the file ends with the last
abbrev pub NameTablesFrom : List ℕ → ℕ → List TableRecord → Type 0
NameTablesFrom file at [] = length file ≡ at
NameTablesFrom file at (r ∷ rs) = NamesTable file at r × NameTablesFrom file (at + padded_size r.length) rs

-- tags ascend strictly, as numbers of four bytes
abbrev pub AscendFrom : ℕ → List (List ℕ) → Type 0
AscendFrom least [] = Unit {0}
AscendFrom least (tag ∷ tags) = (least ≤ be tag) × AscendFrom (be tag + 1) tags

-- a file of one font of a kind, with tables of these tags
pub record IsSoundContainer (file : List ℕ) (kind : ℕ) (tags : List (List ℕ)) : Type 0 where
  pub records : List TableRecord
  pub read : directory (as_font file) ≡ Some records
  pub kind_is : number file 0 4 ≡ Some kind
  pub count : number file 4 2 ≡ Some (length records)
  -- entrySelector is the greatest e with 2 ^ e at most the number of tables
  pub selector : ℕ
  pub at_most : 2 ^ selector ≤ length records
  pub greatest : length records < 2 ^ (selector + 1)
  pub search_range : number file 6 2 ≡ Some (16 * 2 ^ selector)
  pub entry_selector : number file 8 2 ≡ Some selector
  pub range_shift : number file 10 2 ≡ Some (16 * length records - 16 * 2 ^ selector)
  pub tags_are : map (λ (r : TableRecord). r.tag.0) records ≡ tags
  pub ascending : AscendFrom 0 tags
  -- the first table is right after the records
  pub tables : NameTablesFrom file (12 + 16 * length records) records
  -- the whole file has the sum that OpenType asks for, wherever it has `head`
  pub sum : IsSome (table (as_font file) (codes "head")) → checksum file ≡ 0xB1B0AFBA
