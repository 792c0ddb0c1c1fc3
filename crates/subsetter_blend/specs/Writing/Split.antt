-- An operator of more operands than a Type 2 charstring may have (Technical Note 5177, appendix B: 48) as several ones
-- that draw the same.
use Rattle.std.specs.Prelude.{ℕ, zero, suc, ◌+◌, ◌%◌, ℤ, pos, ◌+ℤ◌, ◌==◌, ◌||◌, Bool, true, false, nat_le}
use Rattle.std.specs.Prelude.{if◌then◌else◌, List, [], ◌∷◌, length, take, drop}
use Rattle.subsetter_cffdata.specs.declared.dicts.operator.OperatorType.{OperatorType}
use Rattle.subsetter_cffdata.specs.declared.dicts.operator.OperatorType.TheVariants.{OneByteOperator, TwoByteOperator}
use Rattle.subsetter_blend.specs.Hint.{is_hint}
use Rattle.subsetter_blend.specs.Writing.Taking.{Event}

-- how many of n operands the next piece takes
abbrev pub one_byte_cut : ℕ → ℕ → ℕ
one_byte_cut b n =
    -- rrcurveto, rcurveline
    if b == 8 || b == 24 then 42
    -- rlinecurve, vhcurveto, hvcurveto
    else if b == 25 || b == 30 || b == 31 then 40
    -- vvcurveto, hhcurveto
    else if b == 26 || b == 27 then n % 4 + 44
    -- stems, masks, rlineto, hlineto, vlineto
    else 46

abbrev pub cut : OperatorType → ℕ → ℕ
cut (OneByteOperator (b ∷ [])) n = one_byte_cut b n
cut _ n = 46

-- by which operator: vstemhm where it is a mask's, rrcurveto where a line follows, rlineto where a curve follows
abbrev pub one_byte_piece : ℕ → ℕ
one_byte_piece b = if b == 19 || b == 20 then 23 else if b == 24 then 8 else if b == 25 then 5 else b

abbrev pub piece_type : OperatorType → OperatorType
piece_type (OneByteOperator (b ∷ [])) = OneByteOperator (one_byte_piece b ∷ [])
piece_type (OneByteOperator code) = OneByteOperator code
piece_type (TwoByteOperator code) = TwoByteOperator code

abbrev pub sum_of : List ℤ → ℤ
sum_of [] = pos 0
sum_of (v ∷ vs) = v +ℤ sum_of vs

-- the first operand with a sum
abbrev pub moved_by : ℤ → List ℤ → List ℤ
moved_by sum [] = []
moved_by sum (v ∷ vs) = (sum +ℤ v) ∷ vs

-- the stems of an operator begin at 0 again, so those of a further piece begin with the sum of all before; a path
-- continues
abbrev pub sum_before : Bool → List ℤ → ℤ
sum_before true vs = sum_of vs
sum_before false vs = pos 0

abbrev pub front_of : ℕ → Event → Event
front_of k e = record { operator = record { 0 = piece_type e.operator.0 }; operands = take k e.operands; mask = [] }

abbrev pub rest_of : ℕ → Event → Event
rest_of k e =
    record {
      operator = e.operator;
      operands = moved_by (sum_before (is_hint e.operator.0) (take k e.operands)) (drop k e.operands);
      mask = e.mask;
    }

abbrev pub next_cut : Event → ℕ
next_cut e = cut e.operator.0 (length e.operands)

-- at most 48 operands each, with `width` numbers before those of the first piece; at most `more` further pieces
unfoldable pub pieces : ℕ → ℕ → Event → List Event
pieces zero width e = e ∷ []
pieces (suc more) width e =
    if nat_le (width + length e.operands) 48 then e ∷ []
    else front_of (next_cut e) e ∷ pieces more 0 (rest_of (next_cut e) e)

-- there are fewer pieces than operands
abbrev pub split : ℕ → Event → List Event
split width e = pieces (length e.operands) width e
