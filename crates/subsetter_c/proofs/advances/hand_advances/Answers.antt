use Rattle.std.proofs.Common.{arith, refl, inl, inr}
use Rattle.font_advances.specs.Advances.{advances_seen}
use Rattle.subsetter_c.specs.Advances.{buffers, whole, short, refused}
use Rattle.subsetter_c.proofs.AdvancesLaws.{both_begun}
use Rattle.subsetter_c.proofs.advances.hand_advances.Goals.{then-len-widths-via-then-len-widths, then-len-widths-via-else-len-widths+then-len-heights}
use Rattle.subsetter_c.proofs.advances.hand_advances.Goals as goal

pub returns-in-Err : goal.returns-in-Err
returns-in-Err c = refused c.in-Err.error c.in-Err.is refl c.status_of.ensures

pub returns-then-len-widths : goal.returns-then-len-widths
returns-then-len-widths c =
    short (advances_seen c.in-Ok.found) (c.in-Ok.found, c.in-Ok.is, refl)
    (elim c.then-len-widths.branch [
      | then-len-widths-via-then-len-widths w ↦ inl (omega arith)
      | then-len-widths-via-else-len-widths+then-len-heights w ↦ inr (omega arith)
    ])
    refl refl

pub returns : goal.returns
returns c =
    whole (advances_seen c.in-Ok.found) (c.in-Ok.found, c.in-Ok.is, refl)
    (both_begun (advances_seen c.in-Ok.found) (buffers c.args.widths.now c.args.heights.now c.args.units_per_em.now) _ _ _ _ _ c.deref.ensures.value c.deref-2.ensures.value c.begin_with.ensures c.begin_with-2.ensures c.units_of.ensures)
    refl
