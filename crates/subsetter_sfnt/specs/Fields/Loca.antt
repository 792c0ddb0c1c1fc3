-- The entries of `loca`, read and written (OpenType, "loca - Index to Location").
use Rattle.std.specs.Prelude.{ℕ, ◌*◌, ◌/◌, Bool, List, Option, if◌then◌else◌}
use Rattle.std.specs.Int.{w16, w32, to_be_bytes}
use Rattle.std.specs.List.{flat_map}
use Rattle.std.specs.Option.{option_map}
use Rattle.subsetter_base.specs.Bytes.{number}

-- an entry: an offset of four bytes in the long format, else half of one, of two
abbrev pub loca_offset : List ℕ → Bool → ℕ → Option ℕ
loca_offset loca long g = if long then number loca (4 * g) 4 else option_map (λ half. 2 * half) (number loca (2 * g) 2)

-- ---- written

-- an entry of an offset
abbrev pub offset_bytes : Bool → ℕ → List ℕ
offset_bytes long at = if long then to_be_bytes w32 at else to_be_bytes w16 (at / 2)

-- the bytes of loca: offsets of four bytes, or their halves in two bytes
abbrev pub loca_bytes : Bool → List ℕ → List ℕ
loca_bytes long offsets = flat_map (offset_bytes long) offsets
