use Rattle.std.proofs.Common.{◌≡◌, drop, map}
use Rattle.std.specs.List.{fold}
use Rattle.std.specs.Prelude.{max}
use Rattle.own_choice.specs.Parts.{most_points}
use Rattle.own_choice.specs.declared.drawn.Size.{Size}
use Rattle.own_choice.proofs.drawn.most_points.Given as goal

abbrev pub invariant-loop-size : goal.invariant-loop-size
invariant-loop-size l = fold max l.most (map (λ (z : Size). z.count) (drop l.size-index l.sizes)) ≡ most_points l.sizes
