-- What a charstring is run under.
use Rattle.std.specs.Prelude.{ℕ, Option}
use Rattle.subsetter_type2.specs.Runs.Machine.{Library}

-- the subroutines, the most tokens, the greatest depth, and the most bytes, if they have a bound
pub record Setting : Type 0 where
  pub library : Library
  pub tokens : ℕ
  pub depth : ℕ
  pub bytes : Option ℕ
