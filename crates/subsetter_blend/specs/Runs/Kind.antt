-- The operators of a CFF2 charstring (OpenType, "CFF2 CharString Format"; Technical Note 5177, section 4).
use Rattle.std.specs.Prelude.{ℕ, ◌%◌, Bool, false, [], ◌∷◌, Option, Some, None, nat_lt, nat_le, ◌==◌, ◌||◌, ◌&&◌}
use Rattle.std.specs.Prelude.{if◌then◌else◌}
use Rattle.subsetter_cffdata.specs.declared.dicts.operator.Operator.{Operator}
use Rattle.subsetter_cffdata.specs.declared.dicts.operator.OperatorType.{OperatorType}
use Rattle.subsetter_cffdata.specs.declared.dicts.operator.OperatorType.TheVariants.{OneByteOperator, TwoByteOperator}
use Rattle.subsetter_type2.specs.declared.token.Effect.{Effect}
use Rattle.subsetter_type2.specs.declared.token.Effect.TheVariants as effect
use Rattle.subsetter_type2.specs.Token.{one_byte_effect, two_byte_effect}
use Rattle.subsetter_blend.specs.declared.runs.kind.Kind.{Kind}
use Rattle.subsetter_blend.specs.declared.runs.kind.Kind.TheVariants.{ChoosesData, Blends, CountsStems, Draws}
use Rattle.subsetter_blend.specs.declared.runs.kind.Kind.TheVariants.{CallsLocal, CallsGlobal, Masks}

-- what both kinds of charstrings have: CFF2 has no return and no endchar
abbrev pub kind_of : Option Effect → Option Kind
kind_of None = None
kind_of (Some effect.CountsStems) = Some CountsStems
kind_of (Some effect.Draws) = Some Draws
kind_of (Some effect.CallsLocal) = Some CallsLocal
kind_of (Some effect.CallsGlobal) = Some CallsGlobal
kind_of (Some effect.Returns) = None
kind_of (Some effect.Ends) = None
kind_of (Some effect.Masks) = Some Masks

-- vsindex is 15 and blend 16; the others are those of Type 2
abbrev pub one_byte_kind : ℕ → Option Kind
one_byte_kind b = if b == 15 then Some ChoosesData else if b == 16 then Some Blends else kind_of (one_byte_effect b)

abbrev pub type_kind : OperatorType → Option Kind
type_kind (OneByteOperator (first ∷ [])) = one_byte_kind first
type_kind (OneByteOperator _) = None
type_kind (TwoByteOperator (mark ∷ second ∷ [])) = kind_of (two_byte_effect mark second)
type_kind (TwoByteOperator _) = None

-- what an operator does, if it is a known one
unfoldable pub operator_kind : Operator → Option Kind
operator_kind operator = type_kind operator.0

-- an operator of one byte takes n operands
abbrev pub one_byte_accepts : ℕ → ℕ → Bool
one_byte_accepts b n =
    -- hstem, vstem, hstemhm, vstemhm; rlineto
    if b == 1 || b == 3 || b == 5 || b == 18 || b == 23 then nat_le 2 n && n % 2 == 0
    -- hintmask, cntrmask
    else if b == 19 || b == 20 then n % 2 == 0
    -- vmoveto, hmoveto
    else if b == 4 || b == 22 then n == 1
    -- rmoveto
    else if b == 21 then n == 2
    -- hlineto, vlineto
    else if b == 6 || b == 7 then nat_le 1 n
    -- rrcurveto
    else if b == 8 then nat_le 6 n && n % 6 == 0
    -- rcurveline
    else if b == 24 then nat_le 8 n && n % 6 == 2
    -- rlinecurve
    else if b == 25 then nat_le 8 n && n % 2 == 0
    -- vvcurveto, hhcurveto, vhcurveto, hvcurveto
    else if b == 26 || b == 27 || b == 30 || b == 31 then nat_le 4 n && nat_lt (n % 4) 2
    else false

-- hflex, flex, hflex1, flex1
abbrev pub two_byte_accepts : ℕ → ℕ → Bool
two_byte_accepts b n =
    if b == 34 then n == 7
    else if b == 35 then n == 13
    else if b == 36 then n == 9
    else if b == 37 then n == 11
    else false

abbrev pub type_accepts : OperatorType → ℕ → Bool
type_accepts (OneByteOperator (first ∷ [])) n = one_byte_accepts first n
type_accepts (OneByteOperator _) n = false
type_accepts (TwoByteOperator (mark ∷ second ∷ [])) n = two_byte_accepts second n
type_accepts (TwoByteOperator _) n = false

-- an operator takes n operands
unfoldable pub accepts : Operator → ℕ → Bool
accepts operator n = type_accepts operator.0 n
