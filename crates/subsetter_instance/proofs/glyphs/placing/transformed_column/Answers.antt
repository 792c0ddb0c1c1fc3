use Rattle.std.proofs.Common.{◌≡◌, ◌≤◌, ◌<◌, ◌^◌, ◌++◌, ◌∷◌, [], pos, length, get_or, unsigned_abs, w64, to_z, of_z, rules, arith}
use Rattle.subsetter_instance.specs.Glyphs.Unfolded.{transformed_x}
use Rattle.subsetter_instance.proofs.GlyphsLaws.Reach.{kept, one_more, zip_step}
use Rattle.subsetter_instance.proofs.glyphs.placing.transformed_column.Goals as goal

pub loop-i-preserved : goal.loop-i-preserved
loop-i-preserved c =
    let i = c.loop-i.i in
    let x = get_or c.args.xs.now i (pos 0) in
    let y = get_or c.args.ys.now i (pos 0) in
    let z = c.transformed_x.result in
    let less : i < length c.args.xs.now = omega arith in
    let below : i < length c.args.ys.now = omega (arith, c.requires.same) in
    let bound : unsigned_abs z ≤ 2 ^ 47 = c.transformed_x.ensures.bound in
    let kx : to_z w64 (of_z w64 x) ≡ x = kept x (omega (arith, c.requires.xs i (pos 0) less)) in
    let ky : to_z w64 (of_z w64 y) ≡ y = kept y (omega (arith, c.requires.ys i (pos 0) below)) in
    let kz : to_z w64 (of_z w64 z) ≡ z = kept z (omega (arith, bound)) in
    let h : z ≡ transformed_x c.args.m (x, y) = cc (c.transformed_x.ensures.value, kx, ky) in
    let items : c.push.new.self.items ≡ c.loop-i.all.items ++ z ∷ [] = cc (c.in_ok-push.ensures.items, kz) in
    let step = zip_step (transformed_x c.args.m) c.loop-i.all.items z c.args.xs.now c.args.ys.now i less below h in
    record {
      len = search rules;
      value = cc (step, items, c.loop-i.invariant.value);
      bound = one_more (2 ^ 47) c.loop-i.all.items c.push.new.self.items z items bound c.loop-i.invariant.bound;
    }
