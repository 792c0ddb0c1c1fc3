use Rattle.std.proofs.Common.{◌<◌, ℕ, ◌+◌, ◌-◌, ◌/◌, ◌∙◌, ap, sym, arith}
use Rattle.subsetter_cff2.specs.Selection.Select.{range_at, in_ranges}
use Rattle.subsetter_cff2.specs.Selection.SelectView.{range_view}
use Rattle.subsetter_cff2.proofs.SelectionLaws.Halves.{all_end, all_begin, in_the_middle, nowhere_left}
use Rattle.subsetter_cff2.proofs.selection.search.find_by_halves.Goals as goal

pub loop-low-preserved-then-range-glyph : goal.loop-low-preserved-then-range-glyph
loop-low-preserved-then-range-glyph c =
    let middle = c.loop-low.low + (c.loop-low.high - c.loop-low.low) / 2 in
    let within : middle < c.loop-low.high = omega (arith, c.loop-low-test.true) in
    let here = ap (range_at c.args.bytes.now c.args.list.is_wide) (sym c.range_offset.ensures.value) ∙ sym c.in-Some.ensures in
    record {
      below = λ k less. all_end c.args.bytes.now c.args.list.is_wide c.args.list.at c.args.list.count c.from-glyph.result c.requires.order middle (range_view c.in-Some.range) (omega (arith, within, c.loop-low.invariant.within)) here c.if-range-glyph.true k (omega (arith, less));
      above = c.loop-low.invariant.above;
      order = omega (arith, within);
      within = c.loop-low.invariant.within;
    }

pub loop-low-preserved : goal.loop-low-preserved
loop-low-preserved c =
    let middle = c.loop-low.low + (c.loop-low.high - c.loop-low.low) / 2 in
    let within : middle < c.loop-low.high = omega (arith, c.loop-low-test.true) in
    let here = ap (range_at c.args.bytes.now c.args.list.is_wide) (sym c.range_offset.ensures.value) ∙ sym c.in-Some.ensures in
    record {
      below = c.loop-low.invariant.below;
      above = λ k from less. all_begin c.args.bytes.now c.args.list.is_wide c.args.list.at c.args.list.count c.from-glyph.result c.requires.order middle (range_view c.in-Some.range) here c.if-glyph-range.true k from less;
      order = omega (arith, within);
      within = omega (arith, within, c.loop-low.invariant.within);
    }

pub returns-else-glyph-range : goal.returns-else-glyph-range
returns-else-glyph-range c =
    let middle = c.loop-low.low + (c.loop-low.high - c.loop-low.low) / 2 in
    let within : middle < c.loop-low.high = omega (arith, c.loop-low-test.true) in
    let here = ap (range_at c.args.bytes.now c.args.list.is_wide) (sym c.range_offset.ensures.value) ∙ sym c.in-Some.ensures in
    in_the_middle c.args.bytes.now c.args.list.is_wide c.args.list.at c.args.list.count c.args.glyph c.requires.order middle (range_view c.in-Some.range) (omega (arith, within, c.loop-low.invariant.within)) here
    (omega (arith, c.if-glyph-range.false, c.from-glyph.ensures)) (omega (arith, c.if-range-glyph.false, c.from-glyph.ensures))

pub returns : goal.returns
returns c =
    nowhere_left c.args.bytes.now c.args.list.is_wide c.args.list.at c.args.list.count c.from-glyph.result c.requires.order c.loop-low.low c.loop-low.high (omega (arith, c.loop-low-test.false)) c.loop-low.invariant.below c.loop-low.invariant.above
    ∙ ap (λ (g : ℕ). in_ranges c.args.bytes.now c.args.list.is_wide g c.args.list.count c.args.list.at) c.from-glyph.ensures
