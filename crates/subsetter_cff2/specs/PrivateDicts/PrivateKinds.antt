-- What an operator of a private dict does where the dict is placed (OpenType, "CFF2": "Private DICT Data"; Technical
-- Note 5176, section 15).
use Rattle.std.specs.Prelude.{ℕ, ◌==◌, ◌||◌, ◌&&◌, nat_le, if◌then◌else◌, List, [], ◌∷◌}
use Rattle.subsetter_cff2.specs.declared.private_dicts.kinds.PrivateOperator.{PrivateOperator}
use Rattle.subsetter_cff2.specs.declared.private_dicts.kinds.PrivateOperator.TheVariants.{Blends, ChoosesData, Edges}
use Rattle.subsetter_cff2.specs.declared.private_dicts.kinds.PrivateOperator.TheVariants.{Numbers, Dropped}

-- BlueValues, OtherBlues, FamilyBlues and FamilyOtherBlues are arrays of differences; StdHW and StdVW are numbers;
-- vsindex and blend
abbrev pub one_byte_kind : ℕ → PrivateOperator
one_byte_kind b =
    if nat_le 6 b && nat_le b 9 then Edges
    else if b == 10 || b == 11 then Numbers
    else if b == 22 then ChoosesData
    else if b == 23 then Blends
    else Dropped

-- StemSnapH and StemSnapV are arrays of differences; BlueScale, BlueShift, BlueFuzz, LanguageGroup and ExpansionFactor
-- are numbers
abbrev pub two_byte_kind : ℕ → PrivateOperator
two_byte_kind b =
    if b == 12 || b == 13 then Edges
    else if b == 9 || b == 10 || b == 11 || b == 17 || b == 18 then Numbers
    else Dropped

-- no other operator is of both CFF2 and CFF
abbrev pub kind_by : List ℕ → PrivateOperator
kind_by (b ∷ []) = one_byte_kind b
kind_by (mark ∷ b ∷ []) = if mark == 12 then two_byte_kind b else Dropped
kind_by _ = Dropped
