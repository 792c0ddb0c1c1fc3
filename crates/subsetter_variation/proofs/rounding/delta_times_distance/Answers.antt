use Rattle.std.proofs.Common.{arith, ap, ◌^◌, unsigned_abs, w64, mul-le-mul}
use Rattle.std.proofs.lemmas.Int.{to_z-of_z, fits_signed_mul, unsigned_abs-mul}
use Rattle.subsetter_variation.proofs.rounding.delta_times_distance.Goals as goal

-- src/lib.rt:24:1
pub returns-clause-value : goal.returns-clause-value
returns-clause-value c = let f = fits_signed_mul w64 c.args.delta c.args.distance (2 ^ 15) (2 ^ 16) c.requires.first c.requires.second (omega arith) in grind (arith, to_z-of_z)

-- src/lib.rt:24:1
pub returns-clause-bound : goal.returns-clause-bound
returns-clause-bound c = let e = returns-clause-value c in let m = unsigned_abs-mul c.args.delta c.args.distance in let n = mul-le-mul c.requires.first c.requires.second in omega (arith, ap unsigned_abs e, m, n)
