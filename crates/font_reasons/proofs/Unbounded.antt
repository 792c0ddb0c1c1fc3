-- What is flattened without a bound on bytes.
use Rattle.std.proofs.Common.{◌≡◌, ℕ, List, length, None, Option, Result, Ok, Err, refl, subst, inl, inr}
use Rattle.subsetter_base.specs.declared.error.Error.{Error}
use Rattle.subsetter_base.specs.Gives.{Gives}
use Rattle.subsetter_base.specs.Within.{GivesWithin}
use Rattle.subsetter_base.proofs.Options.{some_not_none}

given : {X Y : Type 0} (view : X → Y) (size : Y → ℕ) (result : Result X Error) (read : Result Y Error) → GivesWithin view None size result read → Gives view result read
given view size (Ok x) read g = g
given view size (Err e) read (inl f) = f
given view size (Err e) read (inr long) = absurd (some_not_none None long.1.most long.1.is_set refl)

-- no bound is passed where there is none
pub unbounded : {X : Type 0} (view : X → List ℕ) (bound : Option ℕ) (result : Result X Error) (read : Result (List ℕ) Error) → bound ≡ None → GivesWithin view bound length result read → Gives view result read
unbounded view bound result read none g = given view length result read (subst (λ (b : Option ℕ). GivesWithin view b length result read) none g)
