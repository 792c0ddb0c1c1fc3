use Rattle.std.proofs.Common.{◌≡◌, ◌++◌, take}
use Rattle.subsetter_instance.specs.Glyphs.Unfolded.{shifted}
use Rattle.subsetter_instance.proofs.glyphs.placing.joined_coordinates.Given as goal

abbrev pub invariant-loop-v : goal.invariant-loop-v
invariant-loop-v l = l.all.items ≡ l.fn.before.items ++ shifted l.by (take l.v-index l.vs)
