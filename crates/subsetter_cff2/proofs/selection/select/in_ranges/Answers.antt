use Rattle.std.proofs.Common.{◌∙◌, sym, ap, ℕ}
use Rattle.std.specs.Prelude.{◌&&◌, nat_le, nat_lt}
use Rattle.subsetter_cff2.specs.Selection.Select.{range_at}
use Rattle.subsetter_cff2.specs.Selection.SelectView.{range_view}
use Rattle.subsetter_cff2.proofs.SelectionLaws.Ranges2.{ranges_next}
use Rattle.subsetter_cff2.proofs.selection.select.in_ranges.Goals as goal

pub loop-i-preserved : goal.loop-i-preserved
loop-i-preserved c =
    ranges_next c.args.bytes.now c.args.is_wide c.args.glyph c.args.count c.loop-i.i c.args.at (range_view c.in_ok-range.range) c.loop-i-test.true
    (ap (range_at c.args.bytes.now c.args.is_wide) (sym c.range_offset.ensures.value) ∙ sym c.in_ok-range.ensures)
    (ap (λ (g : ℕ). nat_le c.in_ok-range.range.first g && nat_lt g c.in_ok-range.range.next) (sym c.from.ensures) ∙ sym c.has.ensures ∙ c.if-has.false)
    ∙ c.loop-i.invariant
