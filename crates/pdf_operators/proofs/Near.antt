-- Whether the numbers of a stop have 32 bits.
use Rattle.std.proofs.Common.{◌≡◌, ℕ, ◌<◌, Bool, true, false, ◌&&◌, Option, Some, None, if◌then◌else◌, refl, ap, ◌∙◌, arith, ℤ, pos}
use native.Mathlib.Nat.{div-eq_of_lt}
use Rattle.subsetter_variation.specs.Nearest.{nearest}
use Rattle.pdf_values.specs.Rounding.{thousandths}
use Rattle.pdf_operators.specs.declared.places.Stop.{Stop}
use Rattle.pdf_operators.specs.Places.{first_three, with_last}

some_same : (x y : Stop) → Some x ≡ Some y → x ≡ y
some_same x y e = cc

pub near_halves : (a b : Bool) (w : Stop) (o : Option Stop) (first : Stop) → Some first ≡ (if a then Some (first_three w) else None) → o ≡ (if b then Some (with_last first w) else None) → o ≡ (if a && b then Some w else None)
near_halves true b w o first e h = h ∙ ap (λ (s : Stop). if b then Some (with_last s w) else None) (some_same first (first_three w) e)
near_halves false b w o first e h = absurd cc

pub far_half : (a b : Bool) (w : Stop) → None ≡ (if a then Some (first_three w) else None) → None ≡ (if a && b then Some w else None)
far_half true b w e = absurd cc
far_half false b w e = refl

-- no length is no thousandths
pub none_long : (z : ℤ) (units : ℕ) → z ≡ pos 0 → 0 < units → thousandths z units ≡ pos 0
unfolding thousandths nearest
none_long z units none above = rw none (ap pos (div-eq_of_lt (omega arith)))
