use Rattle.std.proofs.Common.{◌∙◌, arith}
use Rattle.subsetter_instance.proofs.GlyphsLaws.Reach.{close_end, near_all}
use Rattle.subsetter_instance.proofs.glyphs.simple.are_near.Goals as goal

pub returns-clause-within : goal.returns-clause-within
returns-clause-within c h =
    let cs = c.args.coordinates.now in
    near_all cs (c.loop-v.invariant ∙ close_end c.loop-v.near cs c.loop-v.v-index (omega arith) ∙ h)
