-- A CMap from codes to CIDs (ISO 32000-1, 9.7.5): as it is written, and as it is read.
use Rattle.std.specs.Prelude.{◌≡◌, ◌<◌, ℕ, Bool, true, false, List, [], ◌∷◌, ◌++◌, map, length, All, Option, Some, None}
use Rattle.std.specs.Prelude.{codes, decimal}
use Rattle.std.specs.Option.{option_and_then}
use Rattle.pdf_text.specs.Tokens.{tokens, number_in}
use Rattle.pdf_text.specs.Cmaps.Blocks.{Row, blocks, rows_in, each_in}
use Rattle.pdf_text.specs.Cmaps.Cmap.{hex_string, hex_in, back}

-- a code and its CID
pub record Pair : Type 0 where
  pub code : ℕ
  pub cid : ℕ

-- ---- written

abbrev pub pair_row : Pair → Row
pair_row p = record { code = hex_string (p.code ∷ []); target = decimal p.cid }

-- of vertical writing, and of horizontal writing
unfoldable pub encoding_front : Bool → List ℕ
encoding_front true =
    codes
    "/CIDInit /ProcSet findresource begin\n12 dict begin\nbegincmap\n/CIDSystemInfo << /Registry (Adobe) /Ordering (Identity) /Supplement 0 >> def\n/CMapName /Chosen-V def\n/CMapType 1 def\n/WMode 1 def\n1 begincodespacerange\n<0000> <FFFF>\nendcodespacerange\n"
encoding_front false =
    codes
    "/CIDInit /ProcSet findresource begin\n12 dict begin\nbegincmap\n/CIDSystemInfo << /Registry (Adobe) /Ordering (Identity) /Supplement 0 >> def\n/CMapName /Chosen-H def\n/CMapType 1 def\n1 begincodespacerange\n<0000> <FFFF>\nendcodespacerange\n"

abbrev pub encoding_text : Bool → List Pair → List ℕ
encoding_text vertical ps = encoding_front vertical ++ (blocks (codes "cidchar") (length ps) (map pair_row ps) ++ back)

-- ---- read

-- the pair of a code, which is one unit
abbrev pub pair_of : List ℕ → ℕ → Option Pair
pair_of (code ∷ []) cid = Some (record { code = code; cid = cid })
pair_of _ cid = None

abbrev pub pair_in : Row → Option Pair
pair_in r = option_and_then (λ c. option_and_then (pair_of c) (number_in r.target)) (hex_in r.code)

-- what a CMap says of codes
abbrev pub codes_in : List ℕ → Option (List Pair)
codes_in text = option_and_then (each_in pair_in) (rows_in (codes "cidchar") None (tokens text))

-- ---- the law

-- a pair that can be written: both have two bytes
pub record IsPair (p : Pair) : Type 0 where
  pub code : p.code < 65536
  pub cid : p.cid < 65536

abbrev pub CodesAreRead : Type 0
CodesAreRead = (vertical : Bool) (ps : List Pair) → All IsPair ps → codes_in (encoding_text vertical ps) ≡ Some ps
