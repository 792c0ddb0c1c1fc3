use Rattle.std.proofs.Common.{◌≤◌, ◌^◌, ap, unsigned_abs, arith}
use Rattle.subsetter_instance.proofs.GlyphsLaws.Reach.{kept}
use Rattle.subsetter_instance.proofs.glyphs.placing.quotient.Goals as goal

pub returns-clause-bound : goal.returns-clause-bound
returns-clause-bound c =
    let v = ap unsigned_abs (kept c.args.v (omega (arith, c.requires))) in
    let b : unsigned_abs c.nearest.result ≤ 2 ^ 47 = c.nearest.ensures.within (2 ^ 47) (omega (arith, v, c.requires)) in
    omega (arith, b, ap unsigned_abs (kept c.nearest.result (omega (arith, b))))
