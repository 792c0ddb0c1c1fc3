-- What takes the events of a run, one after the other.
use Rattle.std.specs.Prelude.{◌≡◌, ◌≢◌, ℕ, ℤ, List, [], ◌∷◌, Result, Ok, Err, MatchResult}
use Rattle.subsetter_base.specs.declared.error.Error.{Error}
use Rattle.subsetter_base.specs.declared.error.Error.TheVariants.{OutOfMemory}
use Rattle.subsetter_cffdata.specs.declared.dicts.operator.Operator.{Operator}

-- an operator with the operands, in parts, and the mask that it takes
pub record Event : Type 0 where
  pub operator : Operator
  pub operands : List ℤ
  pub mask : List ℕ

-- the call did this, or reports its fault, want of memory aside
abbrev pub Did : {S A : Type 0} → (S → Result S Error) → S → S → Result A Error → Type 0
Did does old new result =
    MatchResult result (λ _. does old ≡ Ok new) (λ error. error ≢ OutOfMemory → does old ≡ Err error)

-- events that something takes one after the other
abbrev pub and_then : {S : Type 0} → Result S Error → (S → Result S Error) → Result S Error
and_then (Ok s) go = go s
and_then (Err e) go = Err e

abbrev pub all_taken : {S : Type 0} → (Event → S → Result S Error) → List Event → S → Result S Error
all_taken take [] s = Ok s
all_taken take (e ∷ es) s = and_then (take e s) (all_taken take es)
