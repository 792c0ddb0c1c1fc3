-- The short forms of flex as flex: six positions and the depth 50 (Technical Note 5177, section 4.2 "hflex", "flex",
-- "hflex1" and "flex1").
use Rattle.std.specs.Prelude.{ℕ, ◌==◌, ℤ, pos, ◌+ℤ◌, neg_ℤ, unsigned_abs, nat_lt, if◌then◌else◌, List, [], ◌∷◌}
use Rattle.std.specs.Prelude.{slice_index_or}
use Rattle.subsetter_cffdata.specs.declared.dicts.operator.OperatorType.{OperatorType}
use Rattle.subsetter_cffdata.specs.declared.dicts.operator.OperatorType.TheVariants.{OneByteOperator, TwoByteOperator}
use Rattle.subsetter_blend.specs.Writing.Taking.{Event}

-- 50 hundredths, in parts
abbrev pub depth : ℤ
depth = pos 53687091200

-- dx1 dx2 dy2 dx3 dx4 dx5 dx6
abbrev pub opened_hflex : (ℕ → ℤ) → List ℤ
opened_hflex at =
    at 0 ∷ pos 0 ∷ at 1 ∷ at 2 ∷ at 3 ∷ pos 0 ∷ at 4 ∷ pos 0 ∷ at 5 ∷ neg_ℤ (at 2) ∷ at 6 ∷ pos 0 ∷ depth ∷ []

-- dx1 dy1 dx2 dy2 dx3 dx4 dx5 dy5 dx6: the end has the height of the start
abbrev pub opened_hflex1 : (ℕ → ℤ) → List ℤ
opened_hflex1 at =
    at 0 ∷ at 1 ∷ at 2 ∷ at 3 ∷ at 4 ∷ pos 0 ∷ at 5 ∷ pos 0 ∷ at 6 ∷ at 7 ∷ at 8 ∷ neg_ℤ (at 1 +ℤ at 3 +ℤ at 7) ∷ depth
    ∷ []

-- the last operand goes along the axis of the greater sum, and along the other one back to the start
abbrev pub last_x : ℤ → ℤ → ℤ → ℤ
last_x dx dy d6 = if nat_lt (unsigned_abs dy) (unsigned_abs dx) then d6 else neg_ℤ dx

abbrev pub last_y : ℤ → ℤ → ℤ → ℤ
last_y dx dy d6 = if nat_lt (unsigned_abs dy) (unsigned_abs dx) then neg_ℤ dy else d6

abbrev pub sum_x : (ℕ → ℤ) → ℤ
sum_x at = at 0 +ℤ at 2 +ℤ at 4 +ℤ at 6 +ℤ at 8

abbrev pub sum_y : (ℕ → ℤ) → ℤ
sum_y at = at 1 +ℤ at 3 +ℤ at 5 +ℤ at 7 +ℤ at 9

-- dx1 dy1 dx2 dy2 dx3 dy3 dx4 dy4 dx5 dy5 d6
abbrev pub opened_flex1 : (ℕ → ℤ) → List ℤ
opened_flex1 at =
    at 0 ∷ at 1 ∷ at 2 ∷ at 3 ∷ at 4 ∷ at 5 ∷ at 6 ∷ at 7 ∷ at 8 ∷ at 9
    ∷ last_x (sum_x at) (sum_y at) (at 10) ∷ last_y (sum_x at) (sum_y at) (at 10) ∷ depth ∷ []

abbrev pub operand_at : List ℤ → ℕ → ℤ
operand_at operands i = slice_index_or operands i (pos 0)

abbrev pub opened_by : ℕ → List ℤ → List ℤ
opened_by b operands =
    if b == 34 then opened_hflex (operand_at operands)
    else if b == 36 then opened_hflex1 (operand_at operands)
    else if b == 37 then opened_flex1 (operand_at operands)
    else operands

abbrev pub opened_operands : OperatorType → List ℤ → List ℤ
opened_operands (TwoByteOperator (mark ∷ second ∷ [])) operands = opened_by second operands
opened_operands _ operands = operands

-- all operators of two bytes that draw are forms of flex
abbrev pub opened_operator : OperatorType → OperatorType
opened_operator (TwoByteOperator code) = TwoByteOperator (12 ∷ 35 ∷ [])
opened_operator (OneByteOperator code) = OneByteOperator code

unfoldable pub opened : Event → Event
opened e =
    record {
      operator = record { 0 = opened_operator e.operator.0 };
      operands = opened_operands e.operator.0 e.operands;
      mask = e.mask;
    }
