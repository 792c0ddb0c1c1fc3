-- The stems that operators say (Technical Note 5177, section 4.3), and pieces of few operands.
use Rattle.std.specs.Prelude.{ℕ, ◌+◌, ◌≤◌, ◌==◌, ◌||◌, ℤ, pos, ◌+ℤ◌, Bool, true, false, if◌then◌else◌, List, [], ◌∷◌}
use Rattle.std.specs.Prelude.{◌++◌, length}
use Rattle.subsetter_cffdata.specs.declared.dicts.operator.OperatorType.{OperatorType}
use Rattle.subsetter_cffdata.specs.declared.dicts.operator.OperatorType.TheVariants.{OneByteOperator, TwoByteOperator}
use Rattle.subsetter_blend.specs.Writing.Taking.{Event}

-- at most 48 operands each, with `width` numbers before those of the first one
abbrev pub AreFew : ℕ → List Event → Type 0
AreFew width [] = Unit {0}
AreFew width (e ∷ es) = (width + length e.operands ≤ 48) × AreFew 0 es

-- the edges of stems, each as far from the one before as its operand says
abbrev pub edges_from : ℤ → List ℤ → List ℤ
edges_from at [] = []
edges_from at (v ∷ vs) = (at +ℤ v) ∷ edges_from (at +ℤ v) vs

-- hstem and hstemhm; vstem, vstemhm, hintmask and cntrmask
abbrev pub has_stems : Bool → ℕ → Bool
has_stems false b = b == 1 || b == 18
has_stems true b = b == 3 || b == 23 || b == 19 || b == 20

abbrev pub type_stems : Bool → OperatorType → List ℤ → List ℤ
type_stems vertical (OneByteOperator (b ∷ [])) operands =
    if has_stems vertical b then edges_from (pos 0) operands else []
type_stems vertical (OneByteOperator _) operands = []
type_stems vertical (TwoByteOperator _) operands = []

-- the edges of an operator's horizontal or vertical stems, the first one from 0
abbrev pub stems_of : Bool → Event → List ℤ
stems_of vertical e = type_stems vertical e.operator.0 e.operands

abbrev pub all_stems : Bool → List Event → List ℤ
all_stems vertical [] = []
all_stems vertical (e ∷ es) = stems_of vertical e ++ all_stems vertical es
