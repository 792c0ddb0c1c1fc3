use Rattle.std.proofs.Common.{ap, arith, ◌^◌, ◌*◌, ◌≤◌, ◌*ℤ◌, unsigned_abs, w16, w64, mul-le-mul, FitsSigned, rules}
use Rattle.std.proofs.lemmas.Int.{fits_signed_mul, ints, to_z-of_z, unsigned_abs-mul}
use Rattle.subsetter_instance.proofs.glyphs.placing.product.Goals as goal

pub overflow_mul-result : goal.overflow_mul-result
overflow_mul-result c =
    let f : FitsSigned w64 c.args.v = c.ranges.v in
    let g : FitsSigned w16 c.args.scale = c.ranges.scale in
    let h : FitsSigned w64 c.from.result = search rules in
    let d : unsigned_abs c.from.result ≤ 2 ^ 15 = omega (arith, ints) in
    simp to_z-of_z (fits_signed_mul w64 c.from.result c.args.v (2 ^ 15) (2 ^ 45) d c.requires (omega arith))

pub returns-clause-value : goal.returns-clause-value
returns-clause-value c =
    let f : FitsSigned w64 c.args.v = c.ranges.v in
    let g : FitsSigned w16 c.args.scale = c.ranges.scale in
    let h : FitsSigned w64 c.from.result = search rules in
    let d : unsigned_abs c.from.result ≤ 2 ^ 15 = omega (arith, ints) in
    let e = simp to_z-of_z at c.from.ensures in
    let k = fits_signed_mul w64 c.from.result c.args.v (2 ^ 15) (2 ^ 45) d c.requires (omega arith) in
    simp to_z-of_z (ap (λ n. n *ℤ c.args.v) e)

pub returns-clause-bound : goal.returns-clause-bound
returns-clause-bound c =
    let g : FitsSigned w16 c.args.scale = c.ranges.scale in
    let d : unsigned_abs c.args.scale ≤ 2 ^ 15 = omega (arith, ints) in
    let m = unsigned_abs-mul c.args.scale c.args.v in
    let n : unsigned_abs c.args.scale * unsigned_abs c.args.v ≤ 2 ^ 15 * 2 ^ 45 = mul-le-mul d c.requires in
    omega (arith, ap unsigned_abs (returns-clause-value c))
