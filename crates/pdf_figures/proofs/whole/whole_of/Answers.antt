use Rattle.std.proofs.Common.{sym, ◌∙◌, rules, arith, to_z, w64}
use Rattle.pdf_figures.proofs.Laying.{laid_bare, laid_part}
use Rattle.pdf_figures.proofs.whole.whole_of.Goals as goal
use Rattle.pdf_figures.proofs.whole.whole_of.Goals.{then-not-is_bare+else-len-most+in-Some+in_ok-push-in-Some, else-not-is_bare}

pub loop-item-preserved : goal.loop-item-preserved
loop-item-preserved c = elim c.if-not-is_bare.branch [
  | then-not-is_bare+else-len-most+in-Some+in_ok-push-in-Some w ↦
      laid_part c.args.choice.now c.args.items.now c.loop-item.item-index _ c.loop-item.parts.items c.if-not-is_bare.parts.items w.in-Some.part (to_z w64 c.loop-item.x-bits) (to_z w64 c.loop-item.y-bits) (to_z w64 c.if-not-is_bare.x-bits) (to_z w64 c.if-not-is_bare.y-bits) c.loop-item-test.true (sym c.is_bare.ensures ∙ w.if-not-is_bare.true) (omega (arith, c.loop-item.invariant.room))
      (search rules) (search rules) (search rules) (search rules) (search rules) (search rules) (search rules) c.loop-item.invariant
  | else-not-is_bare w ↦ rw w.parts-is (rw w.x-is (rw w.y-is (laid_bare c.args.choice.now c.args.items.now c.loop-item.item-index _ c.loop-item.parts.items _ _ c.loop-item-test.true (sym c.is_bare.ensures ∙ w.if-not-is_bare.false) c.loop-item.invariant)))
]
