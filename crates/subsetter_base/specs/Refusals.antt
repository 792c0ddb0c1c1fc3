-- Why a value was not written.
use Rattle.std.specs.Prelude.{◌≡◌, ◌⊎◌, List, [], ◌∷◌, Option, Some, None}
use Rattle.std.specs.Option.{option_or}
use Rattle.subsetter_base.specs.declared.error.Error.{Error}
use Rattle.subsetter_base.specs.declared.error.Error.TheVariants.{OutOfMemory}

-- the error is want of memory, or the one that the value is refused by, where it is refused
abbrev pub IsOutOfMemoryOr : Option Error → Error → Type 0
IsOutOfMemoryOr None e = e ≡ OutOfMemory
IsOutOfMemoryOr (Some refusal) e = (e ≡ OutOfMemory) ⊎ (e ≡ refusal)

-- the error that the first of the refused items is refused by
abbrev pub first_refusal : {X : Type 0} → (X → Option Error) → List X → Option Error
first_refusal refusal [] = None
first_refusal refusal (x ∷ xs) = option_or (refusal x) (first_refusal refusal xs)
