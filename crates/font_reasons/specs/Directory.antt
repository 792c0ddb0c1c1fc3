-- The records of a table directory.
use Rattle.std.specs.Prelude.{ℕ, ◌/◌, List, [], length, Option, Some, None}
use Rattle.subsetter_sfnt.specs.declared.face.TableRecord.{TableRecord}
use Rattle.subsetter_sfnt.specs.Read.{directory_records}

-- some bytes, none where there are no such bytes
abbrev pub bytes_or_none : Option (List ℕ) → List ℕ
bytes_or_none None = []
bytes_or_none (Some bytes) = bytes

-- the records of a directory
abbrev pub records_in : List ℕ → List TableRecord
records_in bytes = directory_records (length bytes / 16) bytes
