-- The text of each code (ISO 32000-1, 9.10.3).
use Rattle.std.specs.Prelude.{ℕ, zero, suc, ◌+◌, max, Bool, ◌==◌, ◌&&◌, nat_le, nat_eq, if◌then◌else◌, List, [], ◌∷◌}
use Rattle.std.specs.Prelude.{◌++◌, length, Option}
use Rattle.std.specs.Cmp.Lexicographic.{pointwise}
use Rattle.std.specs.List.{list_any}
use Rattle.std.specs.Option.{option_map}
use Rattle.pdf_text.specs.Cmaps.Cmap.{Line, mapping_in}
use Rattle.subsetter_base.specs.Texts.{or_else}

-- the first text of a code that isn't empty
abbrev pub first_text : List Line → ℕ → List ℕ
first_text [] k = []
first_text (l ∷ ls) k = if l.code == k then or_else l.units (first_text ls k) else first_text ls k

-- U+2060 (word joiner), which has no ink and breaks no word; code 0, that of glyph 0, has none
abbrev pub joiner : ℕ → List ℕ
joiner k = if k == 0 then [] else 8288 ∷ []

-- that of a code which a line has
abbrev pub joiner_in : List Line → ℕ → List ℕ
joiner_in ls k = if list_any (λ l. l.code == k) ls then joiner k else []

-- what a code says: its first text, and U+2060 where none of its lines has a text
abbrev pub said_by : List Line → ℕ → List ℕ
said_by ls k = or_else (first_text ls k) (joiner_in ls k)

-- a line for a code that says something
abbrev pub line_of : ℕ → List ℕ → List Line
line_of k [] = []
line_of k (u ∷ us) = record { code = k; units = u ∷ us } ∷ []

-- the lines of the next n codes, in their order, from code k on, by what each says
abbrev pub lines_from : (ℕ → List ℕ) → ℕ → ℕ → List Line
lines_from says k zero = []
lines_from says k (suc n) = line_of k (says k) ++ lines_from says (k + 1) n

-- one more than the greatest code
abbrev pub limit : List Line → ℕ
limit [] = 0
limit (l ∷ ls) = max (l.code + 1) (limit ls)

-- a line for each code that says something
abbrev pub lines_of_codes : List Line → List Line
lines_of_codes ls = lines_from (said_by ls) 0 (limit ls)

-- what a ToUnicode CMap has as the text of a code
abbrev pub text_in : List ℕ → ℕ → Option (List ℕ)
text_in cmap k = option_map (λ ls. first_text ls k) (mapping_in cmap)

-- whether readers find a text where its code has this one: they are equal, and of 1 to 8 units (some readers drop
-- longer ones)
abbrev pub is_found : List ℕ → List ℕ → Bool
is_found text units = nat_le 1 (length units) && (nat_le (length units) 8 && pointwise nat_eq text units)

abbrev pub is_line_found : List Line → Line → Bool
is_line_found ls l = is_found (first_text ls l.code) l.units

-- ---- a table of texts by code

-- the lines of a table, whose first text is that of a code
abbrev pub table_lines : ℕ → List (List ℕ) → List Line
table_lines k [] = []
table_lines k (t ∷ ts) = line_of k t ++ table_lines (k + 1) ts
