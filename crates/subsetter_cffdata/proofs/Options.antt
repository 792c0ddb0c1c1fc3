-- What an answer that is there says of the answers that it was made of.
use Rattle.std.proofs.Common.{◌≡◌, Bool, true, false, cond, Option, Some, None, refl}
use Rattle.std.specs.Option.{option_and_then}
use Rattle.std.proofs.lemmas.Option.{none-some}

pub step : {A B : Type 0} (o : Option A) (f : A → Option B) (y : B) → option_and_then f o ≡ Some y → (x : A) × ((o ≡ Some x) × (f x ≡ Some y))
step None f y e = absurd (none-some y e)
step (Some x) f y e = (x, (refl, e))

pub unless : {A : Type 0} (b : Bool) (o : Option A) (y : A) → cond b None o ≡ Some y → (b ≡ false) × (o ≡ Some y)
unless true o y e = absurd (none-some y e)
unless false o y e = (refl, e)

pub when : {A : Type 0} (b : Bool) (o : Option A) (y : A) → cond b o None ≡ Some y → (b ≡ true) × (o ≡ Some y)
when true o y e = (refl, e)
when false o y e = absurd (none-some y e)
