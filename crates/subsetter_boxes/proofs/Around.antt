-- The least box around boxes goes by no order.
use Rattle.std.proofs.Common.{◌≡◌, ℤ, Option, Some, None, refl, ap, arith}
use Rattle.std.proofs.lemmas.Int.{ints, clamps}
use Rattle.std.specs.Int.{int_min, int_max}
use Rattle.subsetter_points.specs.declared.bounds.Bounds.{Bounds}
use Rattle.subsetter_boxes.specs.Joined.{around, joined}
use Rattle.subsetter_boxes.proofs.Edges.{box_is}

min_assoc : (a b c : ℤ) → int_min (int_min a b) c ≡ int_min a (int_min b c)
min_assoc a b c = omega (arith, ints, clamps)

max_assoc : (a b c : ℤ) → int_max (int_max a b) c ≡ int_max a (int_max b c)
max_assoc a b c = omega (arith, ints, clamps)

around_assoc : (a b c : Bounds) → around (around a b) c ≡ around a (around b c)
around_assoc a b c = box_is _ _ _ _ _ _ _ _ (min_assoc a.x_min b.x_min c.x_min) (min_assoc a.y_min b.y_min c.y_min) (max_assoc a.x_max b.x_max c.x_max) (max_assoc a.y_max b.y_max c.y_max)

pub joined_assoc : (a b c : Option Bounds) → joined (joined a b) c ≡ joined a (joined b c)
joined_assoc None b c = refl
joined_assoc (Some a) None c = refl
joined_assoc (Some a) (Some b) None = refl
joined_assoc (Some a) (Some b) (Some c) = ap (λ (x : Bounds). Some x) (around_assoc a b c)

pub joined_none : (a : Option Bounds) → joined a None ≡ a
joined_none None = refl
joined_none (Some a) = refl
