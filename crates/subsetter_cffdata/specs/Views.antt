-- What numbers and operators in memory show.
use Rattle.std.specs.Prelude.{ℕ, List, ◌++◌, take, slice_index}
use Rattle.std.specs.Fmt.{decimal}
use Rattle.subsetter_cffdata.specs.Reals.Decimals.{Decimal, signed, number}
use Rattle.subsetter_cffdata.specs.Numerals.Numbers.{Number, Integer, Real, Fixed}
use Rattle.subsetter_cffdata.specs.declared.reals.real_number.RealNumber.{RealNumber}
use Rattle.subsetter_cffdata.specs.declared.numerals.number.Number.{Number as StoredNumber}
use Rattle.subsetter_cffdata.specs.declared.numerals.number.Number.TheVariants as numbers
use Rattle.subsetter_cffdata.specs.declared.dicts.operator.OperatorType.{OperatorType}
use Rattle.subsetter_cffdata.specs.declared.dicts.operator.OperatorType.TheVariants as types
use Rattle.subsetter_cffdata.specs.declared.dicts.operator.Operator.{Operator}

abbrev pub decimal_of : RealNumber → Decimal
decimal_of r = record { mantissa = signed r.negative (number (take r.len r.digits)); power = r.power }

abbrev pub number_of : StoredNumber → Number
number_of (numbers.Real r) = Real (decimal_of r)
number_of (numbers.Integer z) = Integer z.0
number_of (numbers.Fixed k) = Fixed k.0

-- an operator's bytes
abbrev pub type_bytes : OperatorType → List ℕ
type_bytes (types.OneByteOperator bytes) = bytes
type_bytes (types.TwoByteOperator bytes) = bytes

abbrev pub operator_of : Operator → List ℕ
operator_of o = type_bytes o.0

-- its bytes in decimal, joined
abbrev pub type_text : OperatorType → List ℕ
type_text (types.OneByteOperator bytes) = decimal (slice_index bytes 0)
type_text (types.TwoByteOperator bytes) = decimal (slice_index bytes 0) ++ decimal (slice_index bytes 1)

abbrev pub operator_text : Operator → List ℕ
operator_text o = type_text o.0
