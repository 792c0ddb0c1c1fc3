use Rattle.std.proofs.Common.{◌≤◌, ◌∙◌, ap, sym, subst, length, unsigned_abs, All}
use Rattle.subsetter_variation.specs.Glyphs.Movement.{Walk}
use Rattle.subsetter_variation.proofs.glyphs.movement.moved_by_each.Goals as goal

pub returns-clause-bound : goal.returns-clause-bound
returns-clause-bound c b h =
    let xs = ap (λ (v : Walk). v.xs) c.w.view_is in
    let ys = ap (λ (v : Walk). v.ys) c.w.view_is in (
      c.in_ok-xs.ensures.count ∙ ap length xs ∙ h.0,
      c.in_ok-ys.ensures.count ∙ ap length ys ∙ h.1,
      c.in_ok-xs.ensures.bound b (subst (λ zs. All (λ z. unsigned_abs z ≤ b) zs) (sym xs) h.2),
      c.in_ok-ys.ensures.bound b (subst (λ zs. All (λ z. unsigned_abs z ≤ b) zs) (sym ys) h.3),
    )
