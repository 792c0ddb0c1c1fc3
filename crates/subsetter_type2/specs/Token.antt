-- The tokens of a charstring (Technical Note 5177, section 3.1 and appendix A).
use Rattle.std.specs.Prelude.{ℕ, List, [], ◌∷◌, Option, Some, None, nat_le, ◌==◌, ◌||◌, ◌&&◌, if◌then◌else◌}
use Rattle.subsetter_cffdata.specs.declared.numerals.charstring_number.CharStringNumber.{CharStringNumber}
use Rattle.subsetter_cffdata.specs.declared.dicts.operator.Operator.{Operator}
use Rattle.subsetter_cffdata.specs.declared.dicts.operator.OperatorType.{OperatorType}
use Rattle.subsetter_cffdata.specs.declared.dicts.operator.OperatorType.TheVariants.{OneByteOperator, TwoByteOperator}
use Rattle.subsetter_type2.specs.declared.token.Effect.{Effect}
use Rattle.subsetter_type2.specs.declared.token.Effect.TheVariants.{CountsStems, Draws, CallsLocal, CallsGlobal}
use Rattle.subsetter_type2.specs.declared.token.Effect.TheVariants.{Returns, Ends, Masks}
use Rattle.subsetter_cffdata.specs.Numerals.CharStringNumber.{number_at}

-- a number or an operator
pub data Token : Type 0 where
  Operand : CharStringNumber → Token
  Operation : Operator → Token

-- an operator of one byte, and one of the mark 12 and a second byte
abbrev pub one_byte : ℕ → Operator
one_byte first = record { 0 = OneByteOperator (first ∷ []) }

abbrev pub two_byte : ℕ → Operator
two_byte second = record { 0 = TwoByteOperator (12 ∷ second ∷ []) }

abbrev pub two_byte_token : List ℕ → Option (Token × List ℕ)
two_byte_token [] = None
two_byte_token (second ∷ rest) = Some (Operation (two_byte second), rest)

abbrev pub number_token : Option (CharStringNumber × List ℕ) → Option (Token × List ℕ)
number_token None = None
number_token (Some r) = Some (Operand r.0, r.1)

-- the token at the front, and the bytes after it; none where it is cut short
unfoldable pub token_of : List ℕ → Option (Token × List ℕ)
token_of [] = None
token_of (first ∷ rest) =
    if first == 28 || nat_le 32 first then number_token (number_at (first ∷ rest))
    else if first == 12 then two_byte_token rest
    else Some (Operation (one_byte first), rest)

abbrev pub one_byte_effect : ℕ → Option Effect
one_byte_effect b =
    -- hstem, vstem, hstemhm, vstemhm
    if b == 1 || b == 3 || b == 18 || b == 23 then Some CountsStems
    -- vmoveto, rlineto, hlineto, vlineto, rrcurveto; rmoveto, hmoveto;
    -- rcurveline, rlinecurve, vvcurveto, hhcurveto; vhcurveto, hvcurveto
    else if nat_le 4 b && nat_le b 8 || b == 21 || b == 22 || nat_le 24 b && nat_le b 27 || b == 30 || b == 31
    then Some Draws
    -- callsubr, callgsubr, return, endchar
    else if b == 10 then Some CallsLocal
    else if b == 29 then Some CallsGlobal
    else if b == 11 then Some Returns
    else if b == 14 then Some Ends
    -- hintmask, cntrmask
    else if b == 19 || b == 20 then Some Masks
    else None

-- hflex, flex, hflex1, flex1
abbrev pub two_byte_effect : ℕ → ℕ → Option Effect
two_byte_effect mark b = if mark == 12 && nat_le 34 b && nat_le b 37 then Some Draws else None

abbrev pub type_effect : OperatorType → Option Effect
type_effect (OneByteOperator (first ∷ [])) = one_byte_effect first
type_effect (OneByteOperator _) = None
type_effect (TwoByteOperator (mark ∷ second ∷ [])) = two_byte_effect mark second
type_effect (TwoByteOperator _) = None

-- what an operator does, if it is a known one
unfoldable pub effect_of : Operator → Option Effect
effect_of operator = type_effect operator.0
