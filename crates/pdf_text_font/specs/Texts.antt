-- ToUnicode of a text: a line for each code above 0 (ISO 32000-1, 9.10.3).
use Rattle.std.specs.Prelude.{◌<◌, ℕ, ◌+◌, ◌-◌, ◌/◌, ◌%◌, nat_lt, if◌then◌else◌, List, [], ◌∷◌, drop, All, Option, Some}
use Rattle.std.specs.Prelude.{None}
use Rattle.subsetter_base.specs.Texts.{utf16}
use Rattle.pdf_text.specs.Cmaps.Cmap.{Line}
use Rattle.pdf_codes.specs.Units.{is_left_out}
use Rattle.pdf_runs.specs.declared.codes.Pair.{Pair}

-- the character that a code says: U+2060 (word joiner) where it has nothing to say, or nothing that a code may say
abbrev pub said_by : Option ℕ → ℕ
said_by None = 8288
said_by (Some c) = if is_left_out c then 8288 else c

-- two units, of which the first are its UTF-16
abbrev pub two_units : ℕ → List ℕ
two_units c = if nat_lt c 65536 then c ∷ 0 ∷ [] else (55296 + (c - 65536) / 1024) ∷ (56320 + (c - 65536) % 1024) ∷ []

abbrev pub units_by : Pair → List ℕ
units_by p = two_units (said_by p.says)

abbrev pub line_of : ℕ → Pair → Line
line_of code p = record { code = code; units = utf16 (said_by p.says) }

-- a line for each code, from one on
abbrev pub lines_from : ℕ → List Pair → List Line
lines_from code [] = []
lines_from code (p ∷ ps) = line_of code p ∷ lines_from (code + 1) ps

-- the lines of all codes but 0, which has no text
abbrev pub lines_of : List Pair → List Line
lines_of ps = lines_from 1 (drop 1 ps)

-- what a pair says is a character
abbrev pub IsCharacter : Option ℕ → Type 0
IsCharacter None = Unit {0}
IsCharacter (Some c) = c < 1114112

abbrev pub SayCharacters : List Pair → Type 0
SayCharacters ps = All (λ (p : Pair). IsCharacter p.says) ps
