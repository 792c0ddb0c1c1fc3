-- What a font's maker permits (OpenType, "OS/2", "fsType").
use Rattle.std.specs.Prelude.{ℕ, Bool, true, false, not, ◌&&◌, nat_le, List, Option, if◌then◌else◌}
use Rattle.std.specs.Option.{option_map_or}
use Rattle.pdf_values.specs.Fields.{has_bit}
use Rattle.subsetter_sfnt.specs.Fields.Os2.{version, fs_type}
use Rattle.pdf_values.specs.declared.permission.Permission.{Permission}
use Rattle.pdf_values.specs.declared.permission.Rights.{Rights}
use Rattle.pdf_values.specs.declared.permission.Rights.TheVariants.{AsSaid, Held}
use Rattle.pdf_values.specs.declared.permission.Usage.{Usage}
use Rattle.pdf_values.specs.declared.permission.Usage.TheVariants.{Unsaid, Installable, Editable, PreviewAndPrint}
use Rattle.pdf_values.specs.declared.permission.Usage.TheVariants.{Restricted}

-- bits 1 to 3 each name a usage; of several the freest counts, and with none a font is installable
abbrev pub usage_of : ℕ → Usage
usage_of n =
    if has_bit n 3 then Editable
    else if has_bit n 2 then PreviewAndPrint
    else if has_bit n 1 then Restricted
    else Installable

-- versions 0 and 1 of `OS/2` assign bits 0 to 3 alone
abbrev pub has_later_bits : Option (List ℕ) → Bool
has_later_bits os2 = option_map_or (nat_le 2) (version os2) false

-- from version 2 on bit 8 forbids subsets, and bit 9 outlines
abbrev pub permission_of : Bool → ℕ → Permission
permission_of later n =
    record { usage = usage_of n; subsetting = not (later && has_bit n 8); outlines = not (later && has_bit n 9) }

-- a font that doesn't say forbids nothing
abbrev pub unsaid : Permission
unsaid = record { usage = Unsaid; subsetting = true; outlines = true }

abbrev pub permission : Option (List ℕ) → Permission
permission os2 = option_map_or (permission_of (has_later_bits os2)) (fs_type os2) unsaid

-- whether a usage lets a document have the font
abbrev pub is_usable : Usage → Bool
is_usable Restricted = false
is_usable usage = true

-- whether a subset may be embedded: as the font says, or by a right of the caller's own
abbrev pub is_permitted : Permission → Rights → Bool
is_permitted p Held = true
is_permitted p AsSaid = is_usable p.usage && p.subsetting && p.outlines
