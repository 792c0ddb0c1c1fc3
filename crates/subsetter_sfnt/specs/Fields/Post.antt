-- The fields that are read of `post` (OpenType, "post - PostScript Table").
use Rattle.std.specs.Prelude.{ℕ, List, Option, ℤ}
use Rattle.std.specs.Int.{w32, cast_signed}
use Rattle.std.specs.Option.{option_map}
use Rattle.subsetter_base.specs.Bytes.{number, field}

-- italicAngle, in 65536ths of a degree, counterclockwise from the vertical
abbrev pub italic_angle : Option (List ℕ) → Option ℤ
italic_angle post = option_map (cast_signed w32) (field post 4 4)

abbrev pub is_fixed_pitch : Option (List ℕ) → Option ℕ
is_fixed_pitch post = field post 12 4

abbrev pub version : List ℕ → Option ℕ
version post = number post 0 4

-- numGlyphs of version 2.0
abbrev pub num_glyphs : List ℕ → Option ℕ
num_glyphs post = number post 32 2
