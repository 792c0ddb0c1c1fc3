use Rattle.std.proofs.Common.{◌≡◌, ◌++◌, drop, map}
use Rattle.own_choice.specs.declared.drawn.Size.{Size}
use Rattle.own_choice.proofs.drawn.are_small.Given as goal

abbrev pub invariant-loop-size : goal.invariant-loop-size
invariant-loop-size l = l.small.items ++ map (λ (z : Size). z.is_small) (drop l.size-index l.sizes) ≡ map (λ (z : Size). z.is_small) l.sizes
