use Rattle.std.proofs.Common.{◌≡◌, ◌+◌, ◌<◌, true, drop, length, get_or, pos, to_z, w64, sym, ◌∙◌, arith}
use Rattle.std.proofs.lemmas.Int.{to_z-of_z}
use Rattle.subsetter_variation.specs.Region.{times_axis_scalar}
use Rattle.subsetter_variation.specs.Glyphs.Tuples.{region_axis_of}
use Rattle.subsetter_variation.proofs.Regions.{scalar_none, scalar_step}
use Rattle.subsetter_variation.proofs.glyphs.tuple_region.intermediate_scalar.Goals as goal

pub returns-then-whole-eq0-clause-value : goal.returns-then-whole-eq0-clause-value
returns-then-whole-eq0-clause-value c =
    let less : c.loop-i.i < length c.args.at.now = grind (arith) in
    let next = times_axis_scalar (region_axis_of true c.loop-i.p.now c.loop-i.s.now c.loop-i.e.now) (get_or c.args.at.now c.loop-i.i (pos 0)) (to_z w64 c.loop-i.whole-bits) in
    let zero : next ≡ pos 0 = grind (arith, to_z-of_z) in
    sym (scalar_none next true (c.loop-i.i + 1) (drop 2 c.loop-i.p.now) (drop 2 c.loop-i.s.now) (drop 2 c.loop-i.e.now) c.args.at.now zero)
    ∙ sym (scalar_step (to_z w64 c.loop-i.whole-bits) true c.loop-i.i c.loop-i.p.now c.loop-i.s.now c.loop-i.e.now c.args.at.now less)
    ∙ c.loop-i.invariant.counted

pub loop-i-preserved : goal.loop-i-preserved
loop-i-preserved c =
    let less : c.loop-i.i < length c.args.at.now = grind (arith) in
    let step = scalar_step c.loop-i.whole true c.loop-i.i c.loop-i.p.now c.loop-i.s.now c.loop-i.e.now c.args.at.now less in
    record {
      counted = grind (arith, to_z-of_z, step);
      low = grind (arith, to_z-of_z);
      high = grind (arith, to_z-of_z);
      peak = grind (arith);
      start = grind (arith);
      end = grind (arith);
    }
