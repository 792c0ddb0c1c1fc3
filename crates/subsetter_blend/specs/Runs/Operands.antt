-- The operands on the stack.
use Rattle.std.specs.Prelude.{◌≡◌, ℕ, ◌≤◌, ℤ, List, take, All, false, Option, Some, None}
use Rattle.subsetter_base.specs.declared.error.Error.{Error}
use Rattle.subsetter_base.specs.declared.error.Error.TheVariants.{CFFError, OverflowError}
use Rattle.subsetter_blend.specs.Runs.Number.{IsWithin, are_within}

-- at most 513, each within 32768 units
pub record AreHeld (items : List ℤ) (len : ℕ) : Type 0 where
  pub few : len ≤ 513
  pub within : All IsWithin (take len items)

-- why a blend that leaves these operands fails
abbrev pub IsBlendFault : Option (List ℤ) → Error → Type 0
IsBlendFault None e = e ≡ CFFError
IsBlendFault (Some operands) e = (e ≡ OverflowError) × (are_within operands ≡ false)
