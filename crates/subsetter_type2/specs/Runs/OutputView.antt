-- How the output holds what is written.
use Rattle.std.specs.Prelude.{◌≡◌, ℕ, zero, suc, ◌+◌, ◌≤◌, List, [], ◌∷◌, ◌++◌, length, take, drop, Option, Some, None}
use Rattle.std.specs.Prelude.{MatchOption}
use Rattle.subsetter_cffdata.specs.declared.numerals.charstring_number.CharStringNumber.{CharStringNumber}
use Rattle.subsetter_cffdata.specs.Numerals.CharStringNumber.{NumberFits, number_at}
use Rattle.subsetter_type2.specs.declared.runs.last_number.LastNumber.{LastNumber}
use Rattle.subsetter_type2.specs.Flat.{flat_operands}
use Rattle.subsetter_type2.specs.Runs.Machine.{last_operand, but_last}
use Rattle.subsetter_type2.specs.Runs.Output.{Written}

abbrev pub AllFit : List CharStringNumber → Type 0
AllFit [] = Unit {0}
AllFit (n ∷ ns) = NumberFits n × AllFit ns

abbrev pub first_and : Option (CharStringNumber × List ℕ) → (List ℕ → List CharStringNumber) → List CharStringNumber
first_and None go = []
first_and (Some r) go = r.0 ∷ go r.1

-- n numbers, as the bytes spell them
unfoldable pub numbers_of : ℕ → List ℕ → List CharStringNumber
numbers_of zero bytes = []
numbers_of (suc count) bytes = first_and (number_at bytes) (numbers_of count)

-- what is written, where `count` operands begin at this place
abbrev pub written_at : List ℕ → ℕ → ℕ → Written
written_at bytes settled count =
    record { settled = take settled bytes; operands = numbers_of count (drop settled bytes) }

-- the bytes are what is settled, and then `count` operands, which begin at this place
pub record IsOutput (bytes : List ℕ) (settled count : ℕ) (w : Written) : Type 0 where
  pub bytes_are : bytes ≡ w.settled ++ flat_operands w.operands
  pub offset : settled ≡ length w.settled
  pub many : count ≡ length w.operands
  pub fit : AllFit w.operands

-- where the last operand begins
abbrev pub last_operand_offset : Written → ℕ
last_operand_offset w = length w.settled + length (flat_operands (but_last w.operands))

-- the same, where the place of the last operand may be known; 0 where it isn't
pub record Holds (bytes : List ℕ) (settled count last : ℕ) (w : Written) : Type 0 where
  pub stands : IsOutput bytes settled count w
  pub known : 1 ≤ count → (last ≡ 0 → ⊥) → last ≡ last_operand_offset w

-- where the operands begin: after the last operator of a stretch that is after `before` bytes; 0 where it has none
abbrev pub operands_offset : ℕ → ℕ → ℕ → ℕ
operands_offset zero settled before = settled
operands_offset (suc end) settled before = before + suc end

-- the last of these numbers, and how many bytes are before it
abbrev pub IsLast : List CharStringNumber → Option LastNumber → Type 0
IsLast numbers result =
    MatchOption result (numbers ≡ [])
    (λ r. (last_operand numbers ≡ Some r.number) × (r.before ≡ length (flat_operands (but_last numbers))))
