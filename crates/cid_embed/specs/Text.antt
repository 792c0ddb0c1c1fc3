-- The text of widths in a PDF (ISO 32000, "Glyph metrics in CIDFonts").
use Rattle.std.specs.Prelude.{ℕ, List, ◌++◌, map, codes, decimal}
use Rattle.std.specs.List.{join_with_byte}

-- the widths from CID 0 on, with one space (32) between each two
abbrev pub width_array : List ℕ → List ℕ
width_array widths = codes "[0 [" ++ join_with_byte 32 (map decimal widths) ++ codes "]]"
