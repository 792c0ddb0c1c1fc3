-- What is written so far: the bytes of the events, and the operands after them.
use Rattle.std.specs.Prelude.{ℕ, List}
use Rattle.subsetter_cffdata.specs.declared.numerals.charstring_number.CharStringNumber.{CharStringNumber}

pub record Written : Type 0 where
  pub settled : List ℕ
  pub operands : List CharStringNumber
