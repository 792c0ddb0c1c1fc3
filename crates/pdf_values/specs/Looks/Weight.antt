-- How bold a font is (OpenType, "OS/2", "usWeightClass"; ISO 32000-1, Table 122).
use Rattle.std.specs.Prelude.{ℕ, ◌+◌, ◌*◌, ◌/◌, min, max, ◌==◌, nat_le, if◌then◌else◌, int_le, List, codes, Option}
use Rattle.std.specs.Prelude.{Some, None, ℤ, pos, unsigned_abs}
use Rattle.std.specs.Option.{option_and_then, option_map_or, unwrap_or}
use Rattle.subsetter_sfnt.specs.Fields.Os2.{us_weight_class}
use Rattle.pdf_values.specs.Head.{sets_bit}
use Rattle.subsetter_sfnt.specs.Fields.Head.{mac_style}
use Rattle.subsetter_variation.specs.Nearest.{nearest}
use Rattle.pdf_values.specs.Movement.{Movement, coordinate_on}

-- old fonts count from 1 to 9
abbrev pub in_hundreds : ℕ → ℕ
in_hundreds n = if nat_le n 9 then 100 * n else n

-- a class above 0; none is above 1000
abbrev pub class_weight : ℕ → Option ℕ
class_weight n = if n == 0 then None else Some (min (in_hundreds n) 1000)

-- where `OS/2` says none, bold (bit 0 of macStyle) or regular
abbrev pub style_weight : Option (List ℕ) → ℕ
style_weight head = if sets_bit (mac_style head) 0 then 700 else 400

abbrev pub weight_of : Option (List ℕ) → Option (List ℕ) → ℕ
weight_of os2 head = unwrap_or (option_and_then class_weight (us_weight_class os2)) (style_weight head)

-- a coordinate of `wght` as a weight: to the nearest whole number, halves up, from 1 to 1000
abbrev pub weight_in : ℤ → ℕ
weight_in n = if int_le n (pos 1) then 1 else if int_le (pos 1000) n then 1000 else unsigned_abs n

abbrev pub weight_by : ℤ → ℕ
weight_by c = weight_in (nearest c 65536)

-- the coordinate on `wght`, where the font has this axis
abbrev pub weight_at : Option Movement → Option (List ℕ) → Option (List ℕ) → ℕ
weight_at m os2 head = option_map_or weight_by (coordinate_on (codes "wght") m) (weight_of os2 head)

-- FontWeight: to the nearest hundred, halves up, from 100 to 900
abbrev pub font_weight : ℕ → ℕ
font_weight w = max 100 (min 900 ((w + 50) / 100 * 100))

-- StemV of a font that doesn't say its stems: 10 + 31 w / 200, to the nearest whole number, halves up
abbrev pub stem_of_weight : ℕ → ℕ
stem_of_weight w = 10 + (31 * w + 100) / 200

abbrev pub stem_v : Option ℕ → ℕ → ℕ
stem_v stem w = unwrap_or stem (stem_of_weight w)
