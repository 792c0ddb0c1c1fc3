use Rattle.std.proofs.Common.{◌≡◌, drop}
use Rattle.std.specs.Prelude.{◌&&◌}
use Rattle.subsetter_instance.specs.Glyphs.Unfolded.{are_near, shifted}
use Rattle.subsetter_instance.proofs.glyphs.placing.are_near_moved.Given as goal

abbrev pub invariant-loop-v : goal.invariant-loop-v
invariant-loop-v l = are_near (shifted l.by l.vs) ≡ l.near && are_near (shifted l.by (drop l.v-index l.vs))
