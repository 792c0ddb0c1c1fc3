use Rattle.std.proofs.Common.{◌≡◌, ◌∙◌, ◌-ℤ◌, ℕ, ℤ, pos, Fits, FitsSigned, w16, w32, to_z, of_z, arith}
use Rattle.std.proofs.lemmas.Int.{ints, to_z-of_z}
use Rattle.subsetter_instance.proofs.tables.extremes.right_bearing.Goals as goal

fits32 : (a : ℕ) (x : ℤ) → Fits w16 a → FitsSigned w16 x → FitsSigned w32 (pos a -ℤ x)
fits32 a x h g = record { sfits = grind (arith, ints, h.fits, g.sfits) }

pub overflow_sub-right : goal.overflow_sub-right
overflow_sub-right c =
    let a : to_z w32 (of_z w32 c.from.result) ≡ pos c.args.advance = to_z-of_z w32 c.from.result (record { sfits = c.from.type_inv }) ∙ c.from.ensures in
    let x : to_z w32 (of_z w32 c.from-2.result) ≡ c.args.x_max = to_z-of_z w32 c.from-2.result (record { sfits = c.from-2.type_inv }) ∙ c.from-2.ensures ∙ to_z-of_z w16 c.args.x_max c.ranges.x_max in
    rw (a, x) (fits32 c.args.advance c.args.x_max c.ranges.advance c.ranges.x_max)
