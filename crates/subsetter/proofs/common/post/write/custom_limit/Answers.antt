use Rattle.std.proofs.Common.{arith}
use Rattle.std.proofs.lemmas.Grind.{common_steps}
use Rattle.subsetter.proofs.common.post.write.custom_limit.Goals.{then-from-limit, else-from-limit}
use Rattle.subsetter.proofs.common.post.write.custom_limit.Goals as goal

pub loop-index-preserved : goal.loop-index-preserved
loop-index-preserved c =
    let inv = c.loop-index.invariant in
    let i = c.loop-index.index-index in
    let at = c.loop-index-test.true in
    elim c.if-from-limit.branch [
      | then-from-limit w ↦ record { above = λ k lt. grind (arith, common_steps, inv.above k); least = λ n h. omega (arith, inv.least n h, h i at); small = omega arith }
      | else-from-limit w ↦ record { above = λ k lt. grind (arith, common_steps, inv.above k); least = λ n h. omega (arith, inv.least n h, h i at); small = omega arith }
    ]
