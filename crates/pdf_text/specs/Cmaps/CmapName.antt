-- A CMap from codes to CIDs under a name that its lines determine (ISO 32000-1, 9.7.5.3): readers keep CMaps by their
-- names.
use Rattle.std.specs.Prelude.{◌≡◌, ℕ, Bool, true, false, List, ◌++◌, map, length, All, Some, codes}
use Rattle.pdf_text.specs.Cmaps.Blocks.{blocks}
use Rattle.pdf_text.specs.Cmaps.Cmap.{back}
use Rattle.pdf_text.specs.Cmaps.Encoding.{Pair, IsPair, pair_row, codes_in}
use Rattle.pdf_text.specs.SubsetName.{tag_of}

-- the text of a CMap before its name
unfoldable pub name_front : List ℕ
name_front =
    codes
    "/CIDInit /ProcSet findresource begin\n12 dict begin\nbegincmap\n/CIDSystemInfo << /Registry (Adobe) /Ordering (Identity) /Supplement 0 >> def\n/CMapName /"

-- the text after the name: CMapType, and WMode 1 where it is vertical
unfoldable pub name_back : Bool → List ℕ
name_back true = codes " def\n/CMapType 1 def\n/WMode 1 def\n"
name_back false = codes " def\n/CMapType 1 def\n"

unfoldable pub code_space : List ℕ
code_space = codes "1 begincodespacerange\n<0000> <FFFF>\nendcodespacerange\n"

-- the lines from `begincodespacerange` on
abbrev pub code_lines : List Pair → List ℕ
code_lines ps = code_space ++ (blocks (codes "cidchar") (length ps) (map pair_row ps) ++ back)

abbrev pub mode_end : Bool → List ℕ
mode_end true = codes "-V"
mode_end false = codes "-H"

-- six letters of these lines, as a subset has of its program, and the writing mode
abbrev pub name_of_codes : Bool → List Pair → List ℕ
name_of_codes vertical ps = tag_of (code_lines ps) ++ mode_end vertical

abbrev pub named_text : Bool → List Pair → List ℕ
named_text vertical ps = name_front ++ (name_of_codes vertical ps ++ (name_back vertical ++ code_lines ps))

-- ---- the law

abbrev pub NamedCodesAreRead : Type 0
NamedCodesAreRead = (vertical : Bool) (ps : List Pair) → All IsPair ps → codes_in (named_text vertical ps) ≡ Some ps
