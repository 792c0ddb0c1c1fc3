-- The plain way to subset `name`, with the error that is returned for each fault.
use Rattle.std.specs.Prelude.{ℕ, ◌+◌, ◌*◌, ◌/◌, List, [], ◌∷◌, ◌++◌, length, filter, flat_map, codes, Option, Some}
use Rattle.std.specs.Prelude.{None, Result, Ok, Err, nat_lt, nat_le, ◌==◌, if◌then◌else◌}
use Rattle.std.specs.Option.{ok_or}
use Rattle.std.specs.Int.{w16, to_be_bytes}
use Rattle.subsetter_base.specs.Bytes.{◌>>=◌, number}
use Rattle.subsetter_base.specs.declared.error.Error.{Error}
use Rattle.subsetter_base.specs.declared.error.Error.TheVariants.{MalformedFont, SubsetError}
use Rattle.subsetter_sfnt.specs.declared.fields.name.NameRecord.{NameRecord}
use Rattle.subsetter.specs.Common.Name.Read.{NameTable, name_parts, is_kept_record, with_string, string_offset, joined}
use Rattle.subsetter.specs.Common.Name.Read.{name_bytes}
use Rattle.subsetter_sfnt.specs.Fields.Name.{name_record_bytes, string_of}

-- records with their new offsets, and the strings that they use
pub record Placed : Type 0 where
  pub names : List NameRecord
  pub strings : List (List ℕ)

-- where a string begins among those before it; a record has 16 bits for that
abbrev pub placed_string : List (List ℕ) → List ℕ → Result ℕ Error
placed_string strings s =
    if nat_lt (string_offset strings s) 65536 then Ok (string_offset strings s) else Err SubsetError

abbrev pub with_name : NameRecord → ℕ → Placed → Placed
with_name r at p = record { names = record r { string_offset = at } ∷ p.names; strings = p.strings }

-- the records, their strings being stored after others
abbrev pub placed : List ℕ → List (List ℕ) → List NameRecord → Result Placed Error
placed storage strings [] = Ok (record { names = []; strings = strings })
placed storage strings (r ∷ rs) = do
  s ← ok_or (string_of storage r) SubsetError
  at ← placed_string strings s
  p ← placed storage (with_string strings s) rs
  Ok (with_name r at p)

-- version, count and the storage's offset
unfoldable pub header_bytes : ℕ → List ℕ
header_bytes count = to_be_bytes w16 0 ++ to_be_bytes w16 count ++ to_be_bytes w16 (6 + 12 * count)

-- the bytes of records, and the strings after them
pub record Laid : Type 0 where
  pub bytes : List ℕ
  pub strings : List (List ℕ)

-- placed records after other bytes
abbrev pub laid_after : List ℕ → Result Placed Error → Result Laid Error
laid_after front read =
    read >>= λ p. Ok (record { bytes = front ++ flat_map name_record_bytes p.names; strings = p.strings })

-- a table of at most 5460 records, which have twelve bytes each
abbrev pub few_laid : Laid → Result (List ℕ) Error
few_laid l =
    if nat_le (length l.bytes) 65520 then Ok (header_bytes (length l.bytes / 12) ++ l.bytes ++ joined l.strings)
    else Err SubsetError

-- at most 5460 records, so that the storage's offset fits
abbrev pub few_names : Placed → Result NameTable Error
few_names p =
    if nat_le (length p.names) 5460 then Ok (record { records = p.names; storage = joined p.strings })
    else Err SubsetError

-- the bytes of the kept records, with their strings after them
abbrev pub laid_bytes : NameTable → Result (List ℕ) Error
laid_bytes t = laid_after [] (placed t.storage [] (filter is_kept_record t.records)) >>= few_laid

unfoldable pub subset_names : NameTable → Result NameTable Error
subset_names t = do
  p ← placed t.storage [] (filter is_kept_record t.records)
  few_names p

-- the bytes of the new table
abbrev pub kept_bytes : NameTable → Result (List ℕ) Error
kept_bytes t = subset_names t >>= λ new. Ok (name_bytes new.records new.storage)

unfoldable pub name_of_table : List ℕ → Result (List ℕ) Error
name_of_table bytes = do
  version ← ok_or (number bytes 0 2) MalformedFont
  if version == 0
      then (ok_or (name_parts bytes) MalformedFont >>= λ t. subset_names t
      >>= λ new. Ok (name_bytes new.records new.storage))
      else Ok bytes

-- a font without the table has none
unfoldable pub new_name : Option (List ℕ) → Result (Option (List ℕ)) Error
new_name None = Ok None
new_name (Some bytes) = name_of_table bytes >>= λ new. Ok (Some new)

abbrev pub name_of : (List ℕ → Option (List ℕ)) → Result (Option (List ℕ)) Error
name_of find = new_name (find (codes "name"))
