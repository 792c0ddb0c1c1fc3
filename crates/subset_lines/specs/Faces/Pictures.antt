-- What pictures the glyphs of a face have, as a line and as a member of a JSON object (RFC 8259).
use Rattle.std.specs.Prelude.{ℕ, ◌==◌, if◌then◌else◌, List, [], ◌∷◌, ◌++◌, codes, decimal}

-- the name of a kind, by its bit in `kinds` of `glyph_kinds`
abbrev pub kind_name : ℕ → List ℕ
kind_name kind =
    if kind == 0 then codes "colr1"
    else if kind == 1 then codes "colr0"
    else if kind == 2 then codes "svg"
    else if kind == 3 then codes "cbdt17"
    else if kind == 4 then codes "cbdt18"
    else if kind == 5 then codes "cbdt19"
    else if kind == 6 then codes "cbdt"
    else if kind == 7 then codes "sbix-png"
    else if kind == 8 then codes "sbix-jpg"
    else if kind == 9 then codes "sbix-tiff"
    else if kind == 10 then codes "sbix-pdf"
    else if kind == 11 then codes "sbix-mask"
    else if kind == 12 then codes "sbix-dupe"
    else if kind == 13 then codes "sbix"
    else if kind == 14 then codes "ebdt"
    else if kind == 15 then codes "outline"
    else codes "empty"

-- with how many glyphs have it
unfoldable pub picture_text : List ℕ → ℕ → ℕ → List ℕ
picture_text middle kind count = kind_name kind ++ middle ++ decimal count

-- each, with a text before the first and one between each two
abbrev pub pictures_text : List ℕ → List ℕ → List ℕ → List (ℕ × ℕ) → List ℕ
pictures_text before between middle [] = []
pictures_text before between middle (p ∷ pictures) =
    (before ++ picture_text middle p.0 p.1) ++ pictures_text between between middle pictures

-- `pictures colr0 48, outline 120`
abbrev pub pictures_line : List (ℕ × ℕ) → List ℕ
pictures_line [] = []
pictures_line (p ∷ pictures) = pictures_text (codes "pictures ") (codes ", ") (codes " ") (p ∷ pictures) ++ codes "\n"

abbrev pub pictures_member : List (ℕ × ℕ) → List ℕ
pictures_member pictures =
    codes ",\"pictures\":{" ++ pictures_text (codes "\"") (codes ",\"") (codes "\":") pictures ++ codes "}"
