-- The fields that are read of `OS/2` (OpenType, "OS/2 - OS/2 and Windows Metrics Table").
use Rattle.std.specs.Prelude.{ℕ, ◌/◌, nat_le, if◌then◌else◌, List, Option, None, ℤ}
use Rattle.std.specs.Option.{option_and_then, option_map}
use Rattle.subsetter_base.specs.Bytes.{field, signed_field}

abbrev pub version : Option (List ℕ) → Option ℕ
version os2 = field os2 0 2

abbrev pub us_weight_class : Option (List ℕ) → Option ℕ
us_weight_class os2 = field os2 4 2

-- what a font's maker permits
abbrev pub fs_type : Option (List ℕ) → Option ℕ
fs_type os2 = field os2 8 2

-- the class of sFamilyClass, whose low byte is a subclass
abbrev pub family_class : Option (List ℕ) → Option ℕ
family_class os2 = option_map (λ n. n / 256) (field os2 30 2)

abbrev pub s_family_class : Option (List ℕ) → Option ℕ
s_family_class os2 = field os2 30 2

-- the first two bytes of panose
abbrev pub b_family_type : Option (List ℕ) → Option ℕ
b_family_type os2 = field os2 32 1

abbrev pub b_serif_style : Option (List ℕ) → Option ℕ
b_serif_style os2 = field os2 33 1

abbrev pub fs_selection : Option (List ℕ) → Option ℕ
fs_selection os2 = field os2 62 2

abbrev pub s_typo_ascender : Option (List ℕ) → Option ℤ
s_typo_ascender os2 = signed_field os2 68

abbrev pub s_typo_descender : Option (List ℕ) → Option ℤ
s_typo_descender os2 = signed_field os2 70

abbrev pub us_win_ascent : Option (List ℕ) → Option ℕ
us_win_ascent os2 = field os2 74 2

abbrev pub us_win_descent : Option (List ℕ) → Option ℕ
us_win_descent os2 = field os2 76 2

-- a signed field that is there from version 2 on
abbrev pub of_version_2 : Option (List ℕ) → ℕ → Option ℤ
of_version_2 os2 at = option_and_then (λ n. if nat_le 2 n then signed_field os2 at else None) (version os2)

abbrev pub sx_height : Option (List ℕ) → Option ℤ
sx_height os2 = of_version_2 os2 86

abbrev pub s_cap_height : Option (List ℕ) → Option ℤ
s_cap_height os2 = of_version_2 os2 88
