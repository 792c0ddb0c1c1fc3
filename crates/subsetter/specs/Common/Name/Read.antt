-- The names of a font (OpenType, "name").
use Rattle.std.specs.Prelude.{◌≡◌, ◌≢◌, ℕ, zero, suc, ◌+◌, ◌*◌, Bool, false, ◌&&◌, ◌||◌, not, List, [], ◌∷◌, ◌++◌}
use Rattle.std.specs.Prelude.{length, drop, map, filter, flat_map, Option, Some, None, nat_lt, ◌==◌, if◌then◌else◌}
use Rattle.std.specs.Option.{option_and_then, option_map}
use Rattle.std.specs.Str.{bytes_eq}
use Rattle.std.specs.Int.{w16, to_be_bytes}
use Rattle.subsetter_base.specs.Bytes.{range, number, from_offset}
use Rattle.subsetter_sfnt.specs.Fields.Name.{name_record_of, name_record_bytes, string_of, is_unicode}
use Rattle.subsetter_base.specs.Options.{◌>>=◌}
use Rattle.subsetter_sfnt.specs.declared.fields.name.NameRecord.{NameRecord}

-- ---- read

-- the next n name records, of 12 bytes each
abbrev pub name_records_in : ℕ → List ℕ → List NameRecord
name_records_in zero bytes = []
name_records_in (suc n) bytes = name_record_of bytes ∷ name_records_in n (drop 12 bytes)

-- the records of a table, and the bytes that hold their strings
pub record NameTable : Type 0 where
  pub records : List NameRecord
  pub storage : List ℕ

-- version, count and the storage's offset, two bytes each, and then the records
abbrev pub name_parts : List ℕ → Option NameTable
name_parts bytes = do
  count ← number bytes 2 2
  offset ← number bytes 4 2
  records ← range bytes 6 (count * 12)
  storage ← from_offset bytes offset
  Some (record { records = name_records_in count records; storage = storage })

-- a table of version 0
unfoldable pub name_table : List ℕ → Option NameTable
name_table bytes = option_and_then (λ version. if version == 0 then name_parts bytes else None) (number bytes 0 2)

-- a name by its platform, encoding, language and number, with its string, none where that isn't inside the storage
pub record Name : Type 0 where
  pub platform : ℕ
  pub encoding : ℕ
  pub language : ℕ
  pub id : ℕ
  pub string : Option (List ℕ)

abbrev pub name_of_record : List ℕ → NameRecord → Name
name_of_record storage r =
    record {
      platform = r.platform_id;
      encoding = r.encoding_id;
      language = r.language_id;
      id = r.name_id;
      string = string_of storage r;
    }

-- the names of a table of version 0
abbrev pub name_records : List ℕ → Option (List Name)
name_records bytes = option_map (λ t. map (name_of_record t.storage) t.records) (name_table bytes)

-- the bytes that hold the strings
abbrev pub name_storage : List ℕ → Option (List ℕ)
name_storage bytes = option_map (λ t. t.storage) (name_table bytes)

-- ---- what is kept

-- the names of the font, its makers, its licence and its families: all of 0 to 14 but the description, 10
abbrev pub is_kept_id : ℕ → Bool
is_kept_id id = nat_lt id 15 && not (id == 10)

abbrev pub is_kept_record : NameRecord → Bool
is_kept_record r = is_unicode r.platform_id r.encoding_id && is_kept_id r.name_id

abbrev pub is_kept_name : Name → Bool
is_kept_name n = is_unicode n.platform n.encoding && is_kept_id n.id

-- ---- strings, each once

-- whether a string is one of these
abbrev pub among : List (List ℕ) → List ℕ → Bool
among [] s = false
among (t ∷ ts) s = bytes_eq s t || among ts s

-- the strings with one at their end, unless it is there
abbrev pub with_string : List (List ℕ) → List ℕ → List (List ℕ)
with_string ts s = if among ts s then ts else ts ++ s ∷ []

-- the strings with each one that isn't there, in order
abbrev pub with_strings : List (List ℕ) → List (List ℕ) → List (List ℕ)
with_strings ts [] = ts
with_strings ts (s ∷ ss) = with_strings (with_string ts s) ss

-- the distinct strings in the order of first use
abbrev pub distinct : List (List ℕ) → List (List ℕ)
distinct ss = with_strings [] ss

-- where a string begins among strings that follow one another; after them all where it isn't one of them
abbrev pub string_offset : List (List ℕ) → List ℕ → ℕ
string_offset [] s = 0
string_offset (t ∷ ts) s = if bytes_eq s t then 0 else length t + string_offset ts s

-- strings one after another, without gaps
abbrev pub joined : List (List ℕ) → List ℕ
joined ts = flat_map (λ (t : List ℕ). t) ts

-- ---- written

-- a table of version 0, its storage right after its records
unfoldable pub name_bytes : List NameRecord → List ℕ → List ℕ
name_bytes records storage =
    to_be_bytes w16 0 ++ to_be_bytes w16 (length records) ++ to_be_bytes w16 (6 + 12 * length records)
    ++ flat_map name_record_bytes records ++ storage

-- ---- what a subset promises

-- the kept names of a table of version 0, in order, each with its string (`strings` has one for each), and right after
-- the records the distinct strings in the order of first use
pub record HasKeptNames (source new : List ℕ) : Type 0 where
  pub names : List Name
  pub strings : List (List ℕ)
  pub source_is : name_records source ≡ Some names
  pub readable : map (λ (n : Name). n.string) (filter is_kept_name names) ≡ map Some strings
  pub new_is : name_records new ≡ Some (filter is_kept_name names)
  pub stored : name_storage new ≡ Some (joined (distinct strings))
  pub offset : number new 4 2 ≡ Some (6 + 12 * length strings)

-- a table of version 0 has the kept names; one of another version is copied
pub data KeepsNames (source new : List ℕ) : Type 0 where
  rewritten : HasKeptNames source new → KeepsNames source new
  copied : (version : ℕ) → number source 0 2 ≡ Some version → version ≢ 0 → new ≡ source → KeepsNames source new
