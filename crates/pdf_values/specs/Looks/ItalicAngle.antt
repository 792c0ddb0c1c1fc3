-- ItalicAngle (ISO 32000-1, Table 122), in thousandths of a degree.
use Rattle.std.specs.Prelude.{ℕ, ◌*◌, Bool, ◌||◌, if◌then◌else◌, int_le, int_lt, nat_lt, unsigned_abs, List, codes}
use Rattle.std.specs.Prelude.{Option, Some, None, ℤ, pos}
use Rattle.std.specs.Option.{option_map_or}
use Rattle.subsetter_sfnt.specs.Fields.Post.{italic_angle}
use Rattle.pdf_values.specs.Looks.Flags.{is_italic}
use Rattle.pdf_values.specs.Movement.{Movement, coordinate_on}
use Rattle.pdf_values.specs.Rounding.{thousandths}

-- that of a number of 65536ths of a degree; one that isn't between -90 and 90 degrees is no angle (OpenType,
-- "Registered design-variation axis tag: 'slnt'"), and counts as 0
abbrev pub angle_of : ℤ → ℤ
angle_of v = if nat_lt (unsigned_abs v) (90 * 65536) then thousandths v 65536 else pos 0

-- that of `post`, else 0
abbrev pub angle : Option (List ℕ) → ℤ
angle post = option_map_or angle_of (italic_angle post) (pos 0)

-- a coordinate of `ital` is italic from a half on, 0x8000 in 65536ths; one of `slnt` below 0
abbrev pub is_ital : ℤ → Bool
is_ital c = int_le (pos 32768) c

abbrev pub leans : ℤ → Bool
leans c = int_lt c (pos 0)

-- the angle that `post` says is that of the italic, where the font has the axis `ital`
abbrev pub angle_by : Option ℤ → Option (List ℕ) → ℤ
angle_by None post = angle post
angle_by (Some ital) post = if is_ital ital then angle post else pos 0

-- ItalicAngle in thousandths of a degree: the coordinate on `slnt`, where the font has this axis
abbrev pub angle_at : Option Movement → Option (List ℕ) → ℤ
angle_at m post =
    option_map_or angle_of (coordinate_on (codes "slnt") m) (angle_by (coordinate_on (codes "ital") m) post)

-- whether the font is italic: by `ital` and `slnt`, where it has one of these axes, else as its default
abbrev pub italic_by : Option ℤ → Option ℤ → Bool → Bool
italic_by None None default = default
italic_by (Some ital) None default = is_ital ital
italic_by None (Some slnt) default = leans slnt
italic_by (Some ital) (Some slnt) default = is_ital ital || leans slnt

abbrev pub is_italic_at : Option Movement → Option (List ℕ) → Option (List ℕ) → ℤ → Bool
is_italic_at m os2 head angle =
    italic_by (coordinate_on (codes "ital") m) (coordinate_on (codes "slnt") m) (is_italic os2 head angle)
