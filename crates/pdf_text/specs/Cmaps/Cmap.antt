-- ToUnicode CMaps (ISO 32000-1, 9.10.3): as they are written, and as they are read.
use Rattle.std.specs.Prelude.{◌≡◌, ◌<◌, ℕ, ◌+◌, ◌-◌, ◌*◌, ◌/◌, ◌%◌, ◌==◌, ◌&&◌, nat_lt, nat_le, if◌then◌else◌, List, []}
use Rattle.std.specs.Prelude.{◌∷◌, ◌++◌, map, length, All, Option, Some, None, codes}
use Rattle.std.specs.Option.{option_map, option_and_then}
use Rattle.pdf_text.specs.Tokens.{tokens}
use Rattle.pdf_text.specs.Cmaps.Blocks.{Row, blocks, rows_in, each_in}

-- a code and the UTF-16 units of its text
pub record Line : Type 0 where
  pub code : ℕ
  pub units : List ℕ

-- ---- written

abbrev pub digit : ℕ → ℕ
digit n = if nat_lt n 10 then 48 + n else 55 + n

-- four digits of base 16
abbrev pub word : ℕ → List ℕ
word n = digit (n / 4096 % 16) ∷ digit (n / 256 % 16) ∷ digit (n / 16 % 16) ∷ digit (n % 16) ∷ []

abbrev pub words : List ℕ → List ℕ
words [] = []
words (u ∷ us) = word u ++ words us

abbrev pub hex_string : List ℕ → List ℕ
hex_string us = codes "<" ++ (words us ++ codes ">")

abbrev pub line_row : Line → Row
line_row l = record { code = hex_string (l.code ∷ []); target = hex_string l.units }

unfoldable pub front : List ℕ
front =
    codes
    "/CIDInit /ProcSet findresource begin\n12 dict begin\nbegincmap\n/CIDSystemInfo << /Registry (Adobe) /Ordering (UCS) /Supplement 0 >> def\n/CMapName /Adobe-Identity-UCS def\n/CMapType 2 def\n1 begincodespacerange\n<0000> <FFFF>\nendcodespacerange\n"

abbrev pub back : List ℕ
back = codes "endcmap\nCMapName currentdict /CMap defineresource pop\nend\nend\n"

abbrev pub cmap_text : List Line → List ℕ
cmap_text ls = front ++ (blocks (codes "bfchar") (length ls) (map line_row ls) ++ back)

-- ---- read

-- what a digit of base 16 counts
abbrev pub digit_value : ℕ → Option ℕ
digit_value b =
    if nat_le 48 b && nat_le b 57 then Some (b - 48)
    else if nat_le 65 b && nat_le b 70 then Some (b - 55)
    else if nat_le 97 b && nat_le b 102 then Some (b - 87)
    else None

-- the units that digits say, four a unit, up to the `>` at the end
abbrev pub units_in : List ℕ → Option (List ℕ)
units_in (a ∷ b ∷ c ∷ d ∷ more) =
    option_and_then (λ w. option_and_then (λ x. option_and_then (λ y.
    option_and_then (λ z. option_map (λ us. (4096 * w + 256 * x + 16 * y + z) ∷ us) (units_in more)) (digit_value d))
    (digit_value c))
    (digit_value b))
    (digit_value a)
units_in (a ∷ []) = if a == 62 then Some [] else None
units_in _ = None

abbrev pub hex_in : List ℕ → Option (List ℕ)
hex_in [] = None
hex_in (b ∷ more) = if b == 60 then units_in more else None

-- the line of a code, which is one unit, and a text, which isn't empty
abbrev pub line_of : List ℕ → List ℕ → Option Line
line_of (code ∷ []) (u ∷ us) = Some (record { code = code; units = u ∷ us })
line_of _ units = None

abbrev pub line_in : Row → Option Line
line_in r = option_and_then (λ c. option_and_then (line_of c) (hex_in r.target)) (hex_in r.code)

-- what a ToUnicode CMap says
abbrev pub mapping_in : List ℕ → Option (List Line)
mapping_in text = option_and_then (each_in line_in) (rows_in (codes "bfchar") None (tokens text))

-- ---- the law

-- a line that can be written: a code of two bytes, and a text that isn't empty
pub record IsLine (l : Line) : Type 0 where
  pub code : l.code < 65536
  pub some : 0 < length l.units
  pub units : All (λ u. u < 65536) l.units

abbrev pub IsReadBack : Type 0
IsReadBack = (ls : List Line) → All IsLine ls → mapping_in (cmap_text ls) ≡ Some ls
