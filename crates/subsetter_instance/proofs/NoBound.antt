-- What is given within a bound, where none is set.
use Rattle.std.proofs.Common.{ℕ, None, Result, Ok, Err, refl, inl, inr}
use Rattle.subsetter_base.specs.declared.error.Error.{Error}
use Rattle.subsetter_base.specs.Gives.{Gives}
use Rattle.subsetter_base.specs.Within.{GivesWithin}
use Rattle.subsetter_base.proofs.Options.{some_not_none}

pub given : {X Y : Type 0} (view : X → Y) (size : Y → ℕ) (result : Result X Error) (read : Result Y Error) → GivesWithin view None size result read → Gives view result read
given view size (Ok x) read g = g
given view size (Err e) read (inl f) = f
given view size (Err e) read (inr long) = absurd (some_not_none None long.1.most long.1.is_set refl)
