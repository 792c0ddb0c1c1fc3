-- What a reader of a content stream finds: which codes are shown, in order, and with which ActualText.
use Rattle.std.specs.Prelude.{◌≡◌, ◌<◌, ℕ, if◌then◌else◌, Bool, List, [], ◌∷◌, map, codes, All, Option, Some, None}
use Rattle.std.specs.List.{flat_map}
use Rattle.std.specs.Str.{bytes_eq}
use Rattle.pdf_text.specs.Tokens.{tokens}
use Rattle.pdf_text.specs.Cmaps.Cmap.{hex_in}
use Rattle.pdf_sheet.specs.Units.{units_of}
use Rattle.pdf_sheet.specs.declared.glyphs.SheetGlyph.{SheetGlyph}
use Rattle.pdf_sheet.specs.declared.frame.Layout.{Layout}
use Rattle.pdf_sheet.specs.Content.{content, frame_of}
use Rattle.pdf_sheet.specs.Pages.{pages_of}

-- the units of a string that is shown, and of the ActualText around it
pub record Showing : Type 0 where
  pub string : Option (List ℕ)
  pub actual : Option (List ℕ)

-- after a token, and in an ActualText or in none
abbrev pub shown_from : List ℕ → Option (List ℕ) → List (List ℕ) → List Showing
shown_from last actual [] = []
shown_from last actual (t ∷ ts) =
    if bytes_eq t (codes "Tj") then record { string = hex_in last; actual = actual } ∷ shown_from t actual ts
    else if bytes_eq t (codes "EMC") then shown_from t None ts
    else if bytes_eq last (codes "/ActualText") then shown_from t (hex_in t) ts
    else shown_from t actual ts

-- what a content stream shows
abbrev pub shown_in : List ℕ → List Showing
shown_in text = shown_from [] None (tokens text)

-- ---- the law

-- the code of a glyph; and its text after a byte order mark, where the code doesn't say it
abbrev pub showing : SheetGlyph → Showing
showing g =
    record { string = Some (g.code ∷ []); actual = if g.is_said then None else Some (65279 ∷ units_of g.text.now) }

-- a code of 16 bits, and characters
pub record IsShowable (g : SheetGlyph) : Type 0 where
  pub code : g.code < 65536
  pub text : All (λ c. c < 1114112) g.text.now

-- the pages show each glyph, in order
abbrev pub AreShown : Type 0
AreShown =
    (layout : Layout) (vertical : Bool) (gs : List SheetGlyph) → All IsShowable gs
    → flat_map (λ p. shown_in (content (frame_of layout vertical gs) p)) (pages_of layout gs) ≡ map showing gs
