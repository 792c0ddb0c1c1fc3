-- The strings of a text of PDF without comments (ISO 32000-1, 7.3.4).
use Rattle.std.specs.Prelude.{ℕ, zero, suc, ◌+◌, ◌==◌, ◌||◌, ◌&&◌, Bool, true, false, if◌then◌else◌, List, [], ◌∷◌}
use Rattle.std.specs.Prelude.{◌++◌}
use Rattle.pdf_text.specs.declared.strings.Place.{Place}
use Rattle.pdf_text.specs.declared.strings.Place.TheVariants.{Outside, Angle, Hexadecimal, Literal, Escaped}
use Rattle.pdf_text.specs.declared.strings.StringRange.{StringRange}

-- after a parenthesis (40) or an angle (60) a string may begin; `<<` begins a dictionary, and `<>` is a string of no
-- bytes
abbrev pub from_outside : ℕ → Place
from_outside b = if b == 40 then Literal 0 else if b == 60 then Angle else Outside

abbrev pub from_angle : ℕ → Place
from_angle b = if b == 60 || b == 62 then Outside else Hexadecimal

-- after the parenthesis that closes one of a literal string's own, or the string
abbrev pub closed : ℕ → Place
closed zero = Outside
closed (suc depth) = Literal depth

-- in a literal string parentheses are in pairs, and a backslash (92) takes the meaning from the byte after it (7.3.4.2)
abbrev pub from_literal : ℕ → ℕ → Place
from_literal depth b =
    if b == 92 then Escaped depth
    else if b == 40 then Literal (depth + 1)
    else if b == 41 then closed depth
    else Literal depth

-- where the byte after this one is
abbrev pub next : Place → ℕ → Place
next Outside b = from_outside b
next Angle b = from_angle b
next Hexadecimal b = if b == 62 then Outside else Hexadecimal
next (Literal depth) b = from_literal depth b
next (Escaped depth) b = Literal depth

-- the byte is the last of a string
abbrev pub is_last : Place → ℕ → Bool
is_last Outside b = false
is_last Angle b = b == 62
is_last Hexadecimal b = b == 62
is_last (Literal depth) b = b == 41 && depth == 0
is_last (Escaped depth) b = false

-- where the string begins that the byte is in: at the last byte that is in none
abbrev pub start_at : Place → ℕ → ℕ → ℕ
start_at Outside start at = at
start_at Angle start at = start
start_at Hexadecimal start at = start
start_at (Literal depth) start at = start
start_at (Escaped depth) start at = start

abbrev pub when_last : Bool → ℕ → ℕ → List StringRange
when_last true start end = record { start = start; end = end } ∷ []
when_last false start end = []

abbrev pub strings_from : Place → ℕ → ℕ → List ℕ → List StringRange
strings_from place start at [] = []
strings_from place start at (b ∷ text) =
    when_last (is_last place b) (start_at place start at) (at + 1)
    ++ strings_from (next place b) (start_at place start at) (at + 1) text

-- the strings of a text, each with what begins and ends it
abbrev pub strings_in : List ℕ → List StringRange
strings_in text = strings_from Outside 0 0 text

-- how many parentheses of a literal string are open
abbrev pub depth_of : Place → ℕ
depth_of Outside = 0
depth_of Angle = 0
depth_of Hexadecimal = 0
depth_of (Literal depth) = depth
depth_of (Escaped depth) = depth
