use Rattle.std.proofs.Common.{ap, arith, ◌^◌, ◌*◌, ◌≤◌, ◌*ℤ◌, unsigned_abs, w16, w64, mul-le-mul, FitsSigned, rules}
use Rattle.std.proofs.lemmas.Int.{fits_signed_mul, ints, to_z-of_z, unsigned_abs-mul}
use Rattle.subsetter_variation.proofs.rounding.scalar_times_delta.Goals as goal

pub overflow_mul-result : goal.overflow_mul-result
overflow_mul-result c =
    let f : FitsSigned w64 c.args.scalar = c.ranges.scalar in
    let g : FitsSigned w16 c.args.delta = c.ranges.delta in
    let h : FitsSigned w64 c.from.result = search rules in
    let d : unsigned_abs c.from.result ≤ 2 ^ 15 = omega (arith, ints) in
    simp to_z-of_z (fits_signed_mul w64 c.args.scalar c.from.result (2 ^ 30) (2 ^ 15) c.requires d (omega arith))

pub returns-clause-value : goal.returns-clause-value
returns-clause-value c =
    let f : FitsSigned w64 c.args.scalar = c.ranges.scalar in
    let g : FitsSigned w16 c.args.delta = c.ranges.delta in
    let h : FitsSigned w64 c.from.result = search rules in
    let d : unsigned_abs c.from.result ≤ 2 ^ 15 = omega (arith, ints) in
    let e = simp to_z-of_z at c.from.ensures in
    let k = fits_signed_mul w64 c.args.scalar c.from.result (2 ^ 30) (2 ^ 15) c.requires d (omega arith) in
    simp to_z-of_z (ap (λ n. c.args.scalar *ℤ n) e)

pub returns-clause-bound : goal.returns-clause-bound
returns-clause-bound c =
    let g : FitsSigned w16 c.args.delta = c.ranges.delta in
    let d : unsigned_abs c.args.delta ≤ 2 ^ 15 = omega (arith, ints) in
    let m = unsigned_abs-mul c.args.scalar c.args.delta in
    let n : unsigned_abs c.args.scalar * unsigned_abs c.args.delta ≤ 2 ^ 30 * 2 ^ 15 = mul-le-mul c.requires d in
    omega (arith, ap unsigned_abs (returns-clause-value c))
