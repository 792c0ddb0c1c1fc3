-- How a font file is laid out (OpenType, "Organization of an OpenType Font").
use Rattle.std.specs.Prelude.{ℕ, ◌+◌, ◌-◌, ◌*◌, ◌%◌, ◌^◌, List, [], ◌∷◌, ◌++◌, length, take, drop, map, codes, Bool}
use Rattle.std.specs.Prelude.{true, ◌&&◌, nat_lt, ◌≡◌, ◌≤◌, if◌then◌else◌}
use Rattle.std.specs.List.{flat_map}
use Rattle.std.specs.Str.{bytes_eq}
use Rattle.std.specs.Int.{w16, w32, to_be_bytes}
use Rattle.subsetter_base.specs.Bytes.{aligned}
use Rattle.subsetter_sfnt.specs.Laying.Checksum.{checksum}
use Rattle.subsetter_sfnt.specs.declared.flavor.FontFlavor.{FontFlavor}
use Rattle.subsetter_sfnt.specs.declared.flavor.FontFlavor.TheVariants.{TrueType, Cff}

-- the word that begins a file of a kind of outlines: 0x00010000, or `OTTO`
abbrev pub kind_word : FontFlavor → ℕ
kind_word TrueType = 0x00010000
kind_word Cff = 0x4F54544F

-- a table by its tag and its bytes
pub record Table : Type 0 where
  pub tag : List ℕ
  pub bytes : List ℕ

-- the greatest e with 2 ^ e at most n, for at most 15 tables
abbrev pub selector : ℕ → ℕ
selector n = if nat_lt n 2 then 0 else (if nat_lt n 4 then 1 else (if nat_lt n 8 then 2 else 3))

-- kind, numTables, searchRange, entrySelector, rangeShift
unfoldable pub header_bytes : ℕ → ℕ → List ℕ
header_bytes kind n =
    to_be_bytes w32 kind ++ to_be_bytes w16 n ++ to_be_bytes w16 (16 * 2 ^ selector n) ++ to_be_bytes w16 (selector n)
    ++ to_be_bytes w16 (16 * n - 16 * 2 ^ selector n)

-- tag, checksum, offset and length
abbrev pub record_bytes : ℕ → Table → List ℕ
record_bytes at t =
    t.tag ++ to_be_bytes w32 (checksum t.bytes) ++ to_be_bytes w32 at ++ to_be_bytes w32 (length t.bytes)

-- the records of tables that follow one another from a place on
abbrev pub directory_bytes : ℕ → List Table → List ℕ
directory_bytes at [] = []
directory_bytes at (t ∷ ts) = record_bytes at t ++ directory_bytes (at + length (aligned 4 t.bytes)) ts

-- the tables, each with zeros up to a multiple of four
abbrev pub body : List Table → List ℕ
body ts = flat_map (λ (t : Table). aligned 4 t.bytes) ts

-- what is before the tables
unfoldable pub front : ℕ → List Table → List ℕ
front kind ts = header_bytes kind (length ts) ++ directory_bytes (12 + 16 * length ts) ts

-- `head` with a word in its bytes 8..12
abbrev pub with_adjustment : ℕ → List ℕ → List ℕ
with_adjustment word bytes = take 8 bytes ++ to_be_bytes w32 word ++ drop 12 bytes

abbrev pub adjusted : ℕ → Table → Table
adjusted word t =
    if bytes_eq t.tag (codes "head") then record { tag = t.tag; bytes = with_adjustment word t.bytes } else t

-- what a sum lacks to 0xB1B0AFBA
abbrev pub adjustment : ℕ → ℕ
adjustment sum = (0xB1B0AFBA + (2 ^ 32 - sum)) % 2 ^ 32

-- the file of tables, of which `head` has zeros in its bytes 8..12
unfoldable pub file : ℕ → List Table → List ℕ
file kind ts = front kind ts ++ body (map (adjusted (adjustment (checksum (front kind ts ++ body ts)))) ts)

-- each table's place and length are below 2 ^ 32
abbrev pub fits : ℕ → List Table → Bool
fits at [] = true
fits at (t ∷ ts) = nat_lt at (2 ^ 32) && (nat_lt (length t.bytes) (2 ^ 32) && fits (at + length (aligned 4 t.bytes)) ts)

-- where the first table is
abbrev pub start_of : List Table → ℕ
start_of ts = 12 + 16 * length ts

-- a tag has four bytes, and `head` has zeros for the adjustment
pub record IsTable (t : Table) : Type 0 where
  pub tag_len : length t.tag ≡ 4
  pub room : bytes_eq t.tag (codes "head") ≡ true → (12 ≤ length t.bytes) × (with_adjustment 0 t.bytes ≡ t.bytes)
