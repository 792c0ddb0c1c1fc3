-- The faults that stop a subset of `name`, each with its error (OpenType, "name").
use Rattle.std.specs.Prelude.{◌≡◌, ℕ, ◌+◌, ◌*◌, ◌<◌, List, length, filter, filter_map, codes, Option, Some, None}
use Rattle.std.specs.Prelude.{Contains}
use Rattle.subsetter_base.specs.Bytes.{number}
use Rattle.subsetter_base.specs.declared.error.Error.{Error}
use Rattle.subsetter_base.specs.declared.error.Error.TheVariants.{MalformedFont, SubsetError}
use Rattle.subsetter.specs.Common.Name.Read.{Name, name_records, is_kept_name, distinct, string_offset}

-- the strings of the kept names that are inside the storage
abbrev pub kept_strings : List Name → List (List ℕ)
kept_strings names = filter_map (λ (n : Name). n.string) (filter is_kept_name names)

pub data HasNameFault (find : List ℕ → Option (List ℕ)) : Error → Type 0 where
  name_without_version : (bytes : List ℕ) → find (codes "name") ≡ Some bytes → length bytes < 2
      → HasNameFault find MalformedFont
  name_header_cut : (bytes : List ℕ) → find (codes "name") ≡ Some bytes → number bytes 0 2 ≡ Some 0 → length bytes < 6
      → HasNameFault find MalformedFont
  name_records_cut : (bytes : List ℕ) (count : ℕ) → find (codes "name") ≡ Some bytes → number bytes 0 2 ≡ Some 0
      → number bytes 2 2 ≡ Some count → length bytes < 6 + count * 12
      → HasNameFault find MalformedFont
  name_storage_outside : (bytes : List ℕ) (offset : ℕ) → find (codes "name") ≡ Some bytes → number bytes 0 2 ≡ Some 0
      → number bytes 4 2 ≡ Some offset → length bytes < offset
      → HasNameFault find MalformedFont
  -- a kept name's string is not inside the storage
  name_string_outside : (bytes : List ℕ) (names : List Name) (n : Name) → find (codes "name") ≡ Some bytes
      → name_records bytes ≡ Some names → Contains (filter is_kept_name names) n → n.string ≡ None
      → HasNameFault find SubsetError
  too_many_names : (bytes : List ℕ) (names : List Name) → find (codes "name") ≡ Some bytes
      → name_records bytes ≡ Some names → 5460 < length (filter is_kept_name names)
      → HasNameFault find SubsetError
  -- a string's new offset does not fit 16 bits
  name_string_too_far : (bytes : List ℕ) (names : List Name) (s : List ℕ) → find (codes "name") ≡ Some bytes
      → name_records bytes ≡ Some names → Contains (kept_strings names) s
      → 65535 < string_offset (distinct (kept_strings names)) s
      → HasNameFault find SubsetError
