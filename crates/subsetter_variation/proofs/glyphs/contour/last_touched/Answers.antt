use Rattle.std.proofs.Common.{None, pos}
use Rattle.subsetter_variation.proofs.GlyphsLaws.Walk.{last_touched-take}
use Rattle.subsetter_variation.proofs.glyphs.contour.last_touched.Goals as goal

pub loop-point-preserved : goal.loop-point-preserved
loop-point-preserved c =
    let e = last_touched-take c.args.points.now c.loop-point.point-index (record { at = pos 0; delta = None }) c.loop-point-test.true in
    cc
