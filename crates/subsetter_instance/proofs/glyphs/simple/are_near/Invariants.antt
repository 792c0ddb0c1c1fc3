use Rattle.std.proofs.Common.{◌≡◌, drop}
use Rattle.std.specs.Prelude.{◌&&◌}
use Rattle.subsetter_instance.specs.Glyphs.Unfolded.{are_near}
use Rattle.subsetter_instance.proofs.glyphs.simple.are_near.Given as goal

abbrev pub invariant-loop-v : goal.invariant-loop-v
invariant-loop-v l = are_near l.coordinates ≡ l.near && are_near (drop l.v-index l.coordinates)
