use Rattle.std.proofs.Common.{◌∙◌, ◌+◌, ◌*◌, ◌^◌, ◌≤◌, ℤ, pos, ◌+ℤ◌, get_or, drop, unsigned_abs, to_z, ap, sym, subst, arith, rules, FitsSigned, w64}
use Rattle.std.proofs.lemmas.Int.{to_z-of_z}
use Rattle.subsetter_blend.specs.Writing.Split.{sum_of}
use Rattle.subsetter_blend.proofs.WritingLaws.Splits.{sum_more}
use Rattle.subsetter_blend.proofs.writing.splitting.sum.Goals as goal

pub loop-operand-preserved : goal.loop-operand-preserved
loop-operand-preserved c =
    let operands = c.args.operands.now in
    let i = c.loop-operand.operand-index in
    let f : FitsSigned w64 c.plus-sum.result = search rules in
    let g : FitsSigned w64 (get_or c.args.operands.now c.loop-operand.operand-index (pos 0)) = search rules in
    let here = to_z-of_z w64 c.plus-sum.result f in
    let value = simp to_z-of_z at c.plus-sum.ensures.value in
    let one = c.requires.small i (pos 0) c.loop-operand-test.true in
    record {
      same = ap (λ (z : ℤ). z +ℤ sum_of (drop (i + 1) operands)) here ∙ sum_more operands i (to_z w64 c.loop-operand.sum-bits) c.plus-sum.result c.loop-operand-test.true value ∙ c.loop-operand.invariant.same;
      bound = subst (λ (z : ℤ). unsigned_abs z ≤ (i + 1) * 2 ^ 48) (sym here) (omega (arith, simp to_z-of_z at c.plus-sum.ensures.bound, c.loop-operand.invariant.bound, one));
    }
