use Rattle.std.proofs.Common.{ap, arith}
use Rattle.pdf_runs.specs.declared.items.Item.{Item}
use Rattle.pdf_operators.specs.declared.places.Advance.{Advance}
use Rattle.pdf_operators.proofs.PenSteps.{advance_is, pen_is, pens_all, pens_failed, pens_more, total_more}
use Rattle.pdf_operators.proofs.places.advance_of.Goals as goal

pub loop-item-preserved : goal.loop-item-preserved
loop-item-preserved c =
    let is = c.args.items.now in
    let k = c.loop-item.item-index in
    let p = c.loop-item.pen in
    let n = c.in-Some.next in
    record {
      pens = pens_more is k _ p n _ c.loop-item-test.true c.in-Some.ensures c.loop-item.invariant.pens;
      x = total_more (λ (i : Item). i.x_advance) is k _ p.x n.x _ c.loop-item-test.true (ap (λ (a : Advance). a.x) (pen_is is k _ p n c.in-Some.ensures)) c.loop-item.invariant.x;
      y = total_more (λ (i : Item). i.y_advance) is k _ p.y n.y _ c.loop-item-test.true (ap (λ (a : Advance). a.y) (pen_is is k _ p n c.in-Some.ensures)) c.loop-item.invariant.y;
    }

pub returns-in-None-clause-none : goal.returns-in-None-clause-none
returns-in-None-clause-none c = pens_failed c.args.items.now c.loop-item.item-index _ c.loop-item.pen _ c.loop-item-test.true c.in-None.ensures c.loop-item.invariant.pens

pub returns-clause-some : goal.returns-clause-some
returns-clause-some c = advance_is c.args.items.now c.loop-item.item-index c.loop-item.pen (omega arith) c.loop-item.invariant.x c.loop-item.invariant.y

pub returns-clause-pens : goal.returns-clause-pens
returns-clause-pens c = pens_all c.args.items.now c.loop-item.item-index c.loop-item.pen (omega arith) c.loop-item.invariant.pens
