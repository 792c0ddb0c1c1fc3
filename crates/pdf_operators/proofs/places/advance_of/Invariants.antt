use Rattle.std.proofs.Common.{◌≡◌, drop, pos, ◌+ℤ◌}
use Rattle.pdf_runs.specs.declared.items.Item.{Item}
use Rattle.pdf_runs.specs.Laws.{total}
use Rattle.pdf_operators.specs.Pens.{are_pens}
use Rattle.pdf_operators.proofs.places.advance_of.Given as goal

abbrev pub invariant-loop-item : goal.invariant-loop-item
invariant-loop-item l = record {
  pens : are_pens l.pen.x l.pen.y (drop l.item-index l.items) ≡ are_pens (pos 0) (pos 0) l.items;
  x : l.pen.x +ℤ total (λ (i : Item). i.x_advance) (drop l.item-index l.items) ≡ total (λ (i : Item). i.x_advance) l.items;
  y : l.pen.y +ℤ total (λ (i : Item). i.y_advance) (drop l.item-index l.items) ≡ total (λ (i : Item). i.y_advance) l.items;
}
