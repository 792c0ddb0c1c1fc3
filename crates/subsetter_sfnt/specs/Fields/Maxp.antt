-- The fields that are read of `maxp` (OpenType, "maxp - Maximum Profile").
use Rattle.std.specs.Prelude.{ℕ, List, Option}
use Rattle.subsetter_base.specs.Bytes.{number}

-- numGlyphs, at byte 4
abbrev pub num_glyphs : List ℕ → Option ℕ
num_glyphs maxp = number maxp 4 2
