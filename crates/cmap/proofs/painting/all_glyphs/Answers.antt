use Rattle.std.proofs.Common.{◌≡◌, ◌+◌, ◌*◌, None, ap, sym, ◌∙◌}
use Rattle.subsetter_base.specs.Bytes.{range}
use Rattle.subsetter_base.specs.Read.{Source}
use Rattle.cmap.proofs.PaintSteps.{painted_end}
use Rattle.cmap.proofs.Steps.{groups_end, groups_none}
use Rattle.cmap.proofs.painting.all_glyphs.Goals as goal

pub returns-in_default : goal.returns-in_default
returns-in_default c =
    let cut : range c.args.table.now (16 + 12 * c.loop-place.place) 12 ≡ None = ap (λ (x : Source). range x.bytes x.offset 12) (sym c.new_at.ensures) ∙ sym c.in_default.ensures.value in
    painted_end c.args.table.now c.args.count c.loop-place.place _ _ c.loop-place.invariant (λ q. groups_none c.args.table.now c.args.count c.loop-place.place q cut c.loop-place-test.true)

pub returns : goal.returns
returns c = painted_end c.args.table.now c.args.count c.loop-place.place _ _ c.loop-place.invariant (λ q. groups_end c.args.table.now c.args.count c.loop-place.place q c.loop-place-test.false)
