-- Ascent, Descent, CapHeight and XHeight (ISO 32000-1, Table 122), with what a font that is moved varies by (OpenType,
-- "MVAR", "Value tags").
use Rattle.std.specs.Prelude.{ℕ, ◌≤◌, ◌^◌, Bool, ◌&&◌, if◌then◌else◌, int_lt, List, codes, Option, Some, None, ℤ, pos}
use Rattle.std.specs.Prelude.{neg_ℤ, unsigned_abs}
use Rattle.std.specs.Option.{option_and_then, option_map, option_or, unwrap_or}
use Rattle.std.specs.Ordering.{int_eq}
use Rattle.subsetter_sfnt.specs.Fields.Os2.{fs_selection, s_typo_ascender, s_typo_descender, us_win_ascent}
use Rattle.subsetter_sfnt.specs.Fields.Os2.{us_win_descent, sx_height, s_cap_height}
use Rattle.pdf_values.specs.Head.{sets_bit}
use Rattle.pdf_values.specs.Movement.{Movement, varied}
use Rattle.subsetter_sfnt.specs.Fields.Hhea.{ascender, descender}
use Rattle.subsetter_sfnt.specs.Fields.Head.{y_min, y_max}
use Rattle.pdf_values.specs.Rounding.{thousandths}
use Rattle.pdf_values.specs.declared.looks.heights.Line.{Line}
use Rattle.pdf_values.specs.declared.looks.heights.Heights.{Heights}

-- how far a line reaches, where both are said; 0 and 0 say nothing
abbrev pub counted : Line → Option Line
counted l = if int_eq l.ascent (pos 0) && int_eq l.descent (pos 0) then None else Some l

abbrev pub line : Option ℤ → Option ℤ → Option Line
line ascent descent =
    option_and_then (λ a. option_and_then (λ d. counted (record { ascent = a; descent = d })) descent) ascent

abbrev pub horizontal_line : Option (List ℕ) → Option Line
horizontal_line hhea = line (ascender hhea) (descender hhea)

abbrev pub typographic_line : Option (List ℕ) → Option Line
typographic_line os2 = line (s_typo_ascender os2) (s_typo_descender os2)

-- usWinDescent is counted downwards
abbrev pub windows_line : Option (List ℕ) → Option Line
windows_line os2 = line (option_map pos (us_win_ascent os2)) (option_map (λ n. neg_ℤ (pos n)) (us_win_descent os2))

abbrev pub box_line : Option (List ℕ) → Option Line
box_line head = line (y_max head) (y_min head)

-- bit 7 of fsSelection, USE_TYPO_METRICS
abbrev pub uses_typographic : Option (List ℕ) → Bool
uses_typographic os2 = sets_bit (fs_selection os2) 7

-- `hhea` is passed over where the typographic metrics are to be used
abbrev pub first_line : Option (List ℕ) → Option (List ℕ) → Option Line
first_line hhea os2 = if uses_typographic os2 then None else horizontal_line hhea

-- the line of `hhea`, or the typographic one, with what it varies by
abbrev pub text_line : Option Movement → Line → Line
text_line m l = record { ascent = varied m (codes "hasc") l.ascent; descent = varied m (codes "hdsc") l.descent }

-- the line that Windows clips to, whose descent is counted downwards
abbrev pub clip_line : Option Movement → Line → Line
clip_line m l =
    record { ascent = varied m (codes "hcla") l.ascent; descent = neg_ℤ (varied m (codes "hcld") (neg_ℤ l.descent)) }

-- the first line that is said: of `hhea`, else the typographic one, else the one of Windows, else the box of all glyphs
unfoldable pub source_line : Option (List ℕ) → Option (List ℕ) → Option Line
source_line hhea os2 = option_or (first_line hhea os2) (typographic_line os2)

unfoldable pub first_moved : Option Movement → Option (List ℕ) → Option (List ℕ) → Option Line
first_moved m hhea os2 = option_map (text_line m) (source_line hhea os2)

unfoldable pub other_line : Option Movement → Option (List ℕ) → Option (List ℕ) → Option Line
other_line m os2 head = option_or (option_map (clip_line m) (windows_line os2)) (box_line head)

unfoldable pub line_of : Option Movement → Option (List ℕ) → Option (List ℕ) → Option (List ℕ) → Line
line_of m hhea os2 head =
    unwrap_or (option_or (first_moved m hhea os2) (other_line m os2 head)) (record { ascent = pos 0; descent = pos 0 })

-- a height above 0
abbrev pub above_0 : ℤ → Option ℤ
above_0 v = if int_lt (pos 0) v then Some v else None

-- a height that `OS/2` says, with what it varies by, else the top of a glyph, if the caller has it
unfoldable pub height : Option Movement → List ℕ → Option ℤ → Option ℤ → Option ℤ
height m tag said top =
    option_or (option_map (varied m tag) (option_and_then above_0 said)) (option_and_then above_0 top)

-- Descent lies below the baseline
abbrev pub descent_of : Line → ℤ
descent_of l = neg_ℤ (pos (unsigned_abs l.descent))

-- all four in thousandths, of a line and of what is said of capitals and of small letters, whose heights are Ascent and
-- none otherwise
unfoldable pub heights_by : Line → Option ℤ → Option ℤ → ℕ → Heights
heights_by l cap x units = record {
  ascent = thousandths l.ascent units;
  descent = thousandths (descent_of l) units;
  cap_height = thousandths (unwrap_or cap l.ascent) units;
  x_height = option_map (λ v. thousandths v units) x;
}

-- the tops are those of "H" and "x" in the font's units
abbrev pub heights_of : Option Movement → Option (List ℕ) → Option (List ℕ) → Option (List ℕ) → Option ℤ → Option ℤ → ℕ
    → Heights
heights_of m hhea os2 head cap_top x_top units =
    heights_by (line_of m hhea os2 head) (height m (codes "cpht") (s_cap_height os2) cap_top)
    (height m (codes "xhgt") (sx_height os2) x_top) units

-- a line of numbers that 16 bits have
pub record IsSmall (l : Line) : Type 0 where
  pub ascent : unsigned_abs l.ascent ≤ 2 ^ 16
  pub descent : unsigned_abs l.descent ≤ 2 ^ 16
