-- Exact operands as whole ones: each position of the path, and each edge of a stem, is rounded once.
use Rattle.std.specs.Prelude.{ℕ, ◌+◌, ℤ, pos, negsuc, ◌+ℤ◌, ◌-ℤ◌, int_le, Bool, ◌&&◌, if◌then◌else◌, List, [], ◌∷◌}
use Rattle.std.specs.Prelude.{◌++◌, Option, Some, None, option_map}
use Rattle.std.specs.Option.{option_and_then}
use Rattle.subsetter_cffdata.specs.declared.dicts.operator.Operator.{Operator}
use Rattle.subsetter_cffdata.specs.declared.numerals.charstring_number.CharStringNumber.{CharStringNumber}
use Rattle.subsetter_cffdata.specs.declared.numerals.charstring_number.CharStringNumber.TheVariants.{Integer}
use Rattle.subsetter_blend.specs.declared.axes.Along.{Along}
use Rattle.subsetter_blend.specs.declared.axes.Along.TheVariants.{X, Y, Still}
use Rattle.subsetter_blend.specs.declared.writing.placing.Position.{Position}
use Rattle.subsetter_blend.specs.Axes.{along}
use Rattle.subsetter_blend.specs.Runs.Number.{IsWithin, is_within, whole}

-- a number of 16 bits
abbrev pub is_short : ℤ → Bool
is_short v = int_le (negsuc 32767) v && int_le v (pos 32767)

-- an exact position, in parts, is within 32768 units
pub record IsPosition (at : Position) : Type 0 where
  pub x : IsWithin at.x
  pub y : IsWithin at.y

abbrev pub origin : Position
origin = record { x = pos 0; y = pos 0 }

-- where the path has come, and its whole operands so far
pub record Placed : Type 0 where
  pub at : Position
  pub numbers : List CharStringNumber

abbrev pub short : ℤ → Option CharStringNumber
short v = if is_short v then Some (Integer v) else None

-- from a coordinate to the next one: the difference of the two, each rounded. The next one is within 32768 units and,
-- like the difference, of 16 bits
unfoldable pub step : ℤ → ℤ → Option CharStringNumber
step old new = if is_within new then (if is_short (whole new) then short (whole new -ℤ whole old) else None) else None

-- what is no move, as a whole number
unfoldable pub whole_operand : ℤ → Option CharStringNumber
whole_operand v = if is_within v then short (whole v) else None

-- where a move by v parts along an axis goes
abbrev pub position_after : Along → ℤ → Position → Position
position_after X v at = record { x = at.x +ℤ v; y = at.y }
position_after Y v at = record { x = at.x; y = at.y +ℤ v }
position_after Still v at = at

-- its whole operand, if it fits
abbrev pub number_of : Along → ℤ → Position → Option CharStringNumber
number_of X v at = step at.x (at.x +ℤ v)
number_of Y v at = step at.y (at.y +ℤ v)
number_of Still v at = whole_operand v

unfoldable pub moved : Along → ℤ → Placed → Option Placed
moved along v p =
    option_map (λ n. record { at = position_after along v p.at; numbers = p.numbers ++ n ∷ [] })
    (number_of along v p.at)

-- the moves of an operator with n operands, from the operand numbered i on; none where a number doesn't fit
abbrev pub placed : Operator → ℕ → ℕ → List ℤ → Placed → Option Placed
placed operator n i [] p = Some p
placed operator n i (v ∷ vs) p = option_and_then (placed operator n (i + 1) vs) (moved (along operator n i) v p)
