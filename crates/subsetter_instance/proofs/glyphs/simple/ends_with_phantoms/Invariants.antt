use Rattle.std.proofs.Common.{◌≡◌, take}
use Rattle.subsetter_instance.proofs.glyphs.simple.ends_with_phantoms.Given as goal

abbrev pub invariant-loop-end : goal.invariant-loop-end
invariant-loop-end l = l.all.items ≡ take l.end-index l.ends
