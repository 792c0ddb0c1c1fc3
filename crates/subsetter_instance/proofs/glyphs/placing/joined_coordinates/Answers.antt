use Rattle.std.proofs.Common.{◌≡◌, ◌≤◌, ◌^◌, ◌++◌, ◌∷◌, [], ◌∙◌, ◌+ℤ◌, pos, get_or, unsigned_abs, w64, to_z, of_z, ap, arith}
use Rattle.subsetter_instance.proofs.GlyphsLaws.Reach.{kept, moved_more}
use Rattle.subsetter_instance.proofs.glyphs.placing.joined_coordinates.Goals as goal

pub plus-requires : goal.plus-requires
plus-requires c =
    let v = get_or c.args.vs.now c.loop-v.v-index (pos 0) in
    let near : unsigned_abs v ≤ 2 ^ 47 = c.requires.vs c.loop-v.v-index (pos 0) c.loop-v-test.true in
    record {
      first = omega (arith, near, ap unsigned_abs (kept v (omega (arith, near))));
      second = omega (arith, c.requires.by, ap unsigned_abs (kept c.args.by (omega (arith, c.requires.by))));
    }

pub loop-v-preserved : goal.loop-v-preserved
loop-v-preserved c =
    let i = c.loop-v.v-index in
    let v = get_or c.args.vs.now i (pos 0) in
    let z = c.plus.result in
    let near : unsigned_abs v ≤ 2 ^ 47 = c.requires.vs i (pos 0) c.loop-v-test.true in
    let kv : to_z w64 (of_z w64 v) ≡ v = kept v (omega (arith, near)) in
    let kb : to_z w64 (of_z w64 c.args.by) ≡ c.args.by = kept c.args.by (omega (arith, c.requires.by)) in
    let kz : to_z w64 (of_z w64 z) ≡ z = kept z (omega (arith, near, c.requires.by, c.plus.ensures.bound, ap unsigned_abs kv, ap unsigned_abs kb)) in
    let by = to_z w64 (of_z w64 c.args.by) in
    let is : z ≡ v +ℤ by = cc (c.plus.ensures.value, kv) in
    let items : c.push_reserved.new.self.items ≡ c.loop-v.all.items ++ z ∷ [] = cc (c.push_reserved.ensures.items, kz) in
    items ∙ moved_more c.loop-v.all.items c.args.before.items by z c.args.vs.now i c.loop-v-test.true is c.loop-v.invariant
