-- Names whose strings aren't inside their table (OpenType, "name").
use Rattle.std.specs.Prelude.{ℕ, zero, suc, ◌+◌, ◌==◌, ◌&&◌, not, Bool, nat_lt, if◌then◌else◌, List, Option, Some, None}
use Rattle.std.specs.Prelude.{codes}
use Rattle.std.specs.Option.{option_and_then}
use Rattle.subsetter_base.specs.Bytes.{number, range, from_offset}
use Rattle.subsetter_sfnt.specs.Fields.Name.{is_unicode, name_record_of, string_of}
use Rattle.subsetter_sfnt.specs.Read.{Font, stored}
use Rattle.subsetter_sfnt.specs.declared.fields.name.NameRecord.{NameRecord}
use Rattle.font_reasons.specs.File.{or_else}
use Rattle.font_reasons.specs.declared.reason.Reason.{Reason}
use Rattle.font_reasons.specs.declared.reason.Reason.TheVariants.{LostName}

-- of the Unicode names a new font has 0 to 14 but the description, 10
abbrev pub is_kept : NameRecord → Bool
is_kept r = is_unicode r.platform_id r.encoding_id && (nat_lt r.name_id 15 && not (r.name_id == 10))

-- the string of a kept name isn't inside the storage
abbrev pub lost_by : ℕ → Option (List ℕ) → Option Reason
lost_by id None = Some (LostName id)
lost_by id (Some string) = None

abbrev pub lost_string : List ℕ → NameRecord → Option Reason
lost_string storage r = if is_kept r then lost_by r.name_id (string_of storage r) else None

-- by the record at an offset
abbrev pub lost_at : List ℕ → List ℕ → ℕ → Option Reason
lost_at name storage at = option_and_then (λ bytes. lost_string storage (name_record_of bytes)) (range name at 12)

-- the first of the next n name records from an offset on whose string isn't there
unfoldable pub lost_from : List ℕ → List ℕ → ℕ → ℕ → Option Reason
lost_from name storage zero at = None
lost_from name storage (suc n) at = or_else (lost_at name storage at) (lost_from name storage n (at + 12))

-- count is at byte 2, storageOffset at 4, and the records begin at 6
abbrev pub lost_in : List ℕ → Option Reason
lost_in name =
    option_and_then (λ count.
    option_and_then (λ storage. lost_from name storage count 6) (option_and_then (from_offset name) (number name 4 2)))
    (number name 2 2)

-- of a table of version 0; others are copied
abbrev pub lost_name_of : List ℕ → Option Reason
lost_name_of name = option_and_then (λ version. if version == 0 then lost_in name else None) (number name 0 2)

abbrev pub lost_name : Font → Option Reason
lost_name font = option_and_then lost_name_of (stored font (codes "name"))
