use Rattle.std.proofs.Common.{◌≡◌, ◌+◌, ◌++◌, map, take}
use Rattle.subsetter_instance.proofs.glyphs.placing.joined_ends.Given as goal

abbrev pub invariant-loop-end : goal.invariant-loop-end
invariant-loop-end l = l.ends.items ≡ l.fn.ends.items ++ map (λ e. e + l.n) (take l.end-index l.part)
