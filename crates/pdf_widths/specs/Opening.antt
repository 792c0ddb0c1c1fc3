-- The width before a charstring: the operand more than its first operator takes (Technical Note 5177, section 3.1 "Type
-- 2 Charstring Organization" and section 4 "Charstring Operators").
use Rattle.std.specs.Prelude.{ℕ, zero, suc, ◌+◌, ◌-◌, ◌%◌, ◌==◌, ◌||◌, if◌then◌else◌, List, [], ◌∷◌, Option, Some, None}
use Rattle.std.specs.Prelude.{option_map}
use Rattle.subsetter_base.specs.Options.{◌>>=◌}
use Rattle.subsetter_cffdata.specs.declared.numerals.charstring_number.CharStringNumber.{CharStringNumber}
use Rattle.subsetter_cffdata.specs.Numerals.CharStringNumber.{number_at}
use Rattle.subsetter_type2.specs.Token.{one_byte_effect}
use Rattle.subsetter_type2.specs.declared.token.Effect.{Effect}
use Rattle.subsetter_type2.specs.declared.token.Effect.TheVariants.{CountsStems, Draws, CallsLocal, CallsGlobal}
use Rattle.subsetter_type2.specs.declared.token.Effect.TheVariants.{Returns, Ends, Masks}
use Rattle.pdf_widths.specs.declared.opening.FirstOperator.{FirstOperator}

-- ---- the first operator
abbrev pub operator_at : ℕ → List ℕ → Option FirstOperator
operator_at operands [] = None
operator_at operands (b ∷ bytes) = Some (record { operands = operands; operator = b })

-- here, where no number is at the front, else after it
abbrev pub here_or_after : Option FirstOperator → (List ℕ → Option FirstOperator) → Option (CharStringNumber × List ℕ)
    → Option FirstOperator
here_or_after here following None = here
here_or_after here following (Some r) = following r.1

-- the first operator, after `operands` numbers, and fewer than n more
unfoldable pub first_operator : ℕ → ℕ → List ℕ → Option FirstOperator
first_operator zero operands bytes = None
first_operator (suc left) operands bytes =
    here_or_after (operator_at operands bytes) (first_operator left (operands + 1)) (number_at bytes)

-- of operators that draw, rmoveto takes two operands, and vmoveto and hmoveto one; a path begins with no other one
abbrev pub move_parity : ℕ → Option ℕ
move_parity b = if b == 21 then Some 0 else if b == 4 || b == 22 then Some 1 else None

-- stems and masks take pairs of operands, and endchar none
abbrev pub effect_parity : ℕ → Option Effect → Option ℕ
effect_parity b None = None
effect_parity b (Some CountsStems) = Some 0
effect_parity b (Some Draws) = move_parity b
effect_parity b (Some CallsLocal) = None
effect_parity b (Some CallsGlobal) = None
effect_parity b (Some Returns) = None
effect_parity b (Some Ends) = Some 0
effect_parity b (Some Masks) = Some 0

-- how many operands an operator takes beside a width, modulo 2; none of one that takes no width
unfoldable pub parity : ℕ → Option ℕ
parity b = effect_parity b (one_byte_effect b)

-- ---- the width
pub record Opening : Type 0 where
  pub width : Option CharStringNumber
  -- how many operands the first operator has beside it
  pub operands : ℕ
  -- what is after it
  pub body : List ℕ

abbrev pub opening_by : List ℕ → ℕ → ℕ → Option Opening
opening_by charstring operands parity =
    if operands % 2 == parity then Some (record { width = None; operands = operands; body = charstring })
    else option_map (λ r. record { width = Some r.0; operands = operands - 1; body = r.1 }) (number_at charstring)

-- the stack holds 48 numbers (appendix B)
unfoldable pub opening_of : List ℕ → Option Opening
opening_of charstring = do
  first ← first_operator 49 0 charstring
  taken ← parity first.operator
  opening_by charstring first.operands taken
