use Rattle.std.proofs.Common.{◌+◌, get_or, inl, inr, sym, subst, arith}
use Rattle.std.specs.List.Sorted.{IsPermutation, IsSorted}
use Rattle.std.specs.Ordering.{nat_cmp}
use Rattle.subsetter_instance.specs.Tables.Requested.{IsOrder}
use Rattle.subsetter_instance.proofs.TablesLaws.OrderLemmas.{order_none, order_push, order_end, gap_before, none_later, seen_more}
use Rattle.subsetter_instance.proofs.tables.requested.requested_in_order.Goals.{then-glyph-next+then-glyph-count+in_ok-push, else-glyph-next, else-glyph-next-via-then-glyph-next+else-glyph-count, else-glyph-next-via-else-glyph-next}
use Rattle.subsetter_instance.proofs.tables.requested.requested_in_order.Goals as goal

pub loop-glyph-init : goal.loop-glyph-init
loop-glyph-init c = record {
  order = subst (IsOrder c.args.mapper.now 0 0) (sym c.in_ok-order.ensures.items) (order_none c.args.mapper.now);
  seen = λ j lt. absurd (omega arith);
  small = omega arith;
}

pub loop-glyph-preserved : goal.loop-glyph-preserved
loop-glyph-preserved c =
    let glyphs = c.args.mapper.now in
    let sorted = c.deref-glyph-items.result.now in
    let same = subst (IsPermutation glyphs) (sym c.deref-glyph-items.ensures.value) c.in_ok-sorted.ensures.same in
    let up = subst (IsSorted nat_cmp) (sym c.deref-glyph-items.ensures.value) c.in_ok-sorted.ensures.sorted in
    let next = c.loop-glyph.next in
    let k = c.loop-glyph.glyph-index in
    let g = get_or sorted k 0 in
    let i = c.loop-glyph.invariant in
    elim c.if-glyph-next.branch [
      | then-glyph-next+then-glyph-count+in_ok-push w ↦ rw (w.order-is, w.next-is, w.in_ok-push.ensures.items) (record {
        order = order_push glyphs next g 0 c.loop-glyph.order.items i.order w.if-glyph-next.true (gap_before glyphs sorted next c.args.count k g same up i.seen (omega (arith, w.if-glyph-count.true)) (λ j a b. none_later sorted k j up a b));
        seen = seen_more sorted next (g + 1) c.args.count k i.seen (omega (arith, w.if-glyph-next.true)) (inl (omega arith));
        small = omega (arith, w.if-glyph-count.true);
      })
      | else-glyph-next w ↦ rw (w.order-is, w.next-is) (record {
        order = i.order;
        seen = seen_more sorted next next c.args.count k i.seen (omega arith) (elim w.else-glyph-next.branch [
          | else-glyph-next-via-then-glyph-next+else-glyph-count v ↦ inr v.if-glyph-count.false
          | else-glyph-next-via-else-glyph-next v ↦ inl v.if-glyph-next.false
        ]);
        small = i.small;
      })
    ]

pub returns-clause-ok : goal.returns-clause-ok
returns-clause-ok c =
    let sorted = c.deref-glyph-items.result.now in
    let same = subst (IsPermutation c.args.mapper.now) (sym c.deref-glyph-items.ensures.value) c.in_ok-sorted.ensures.same in
    let up = subst (IsSorted nat_cmp) (sym c.deref-glyph-items.ensures.value) c.in_ok-sorted.ensures.sorted in
    let i = c.loop-glyph.invariant in
    order_end c.args.mapper.now c.loop-glyph.next c.args.count 0 c.loop-glyph.order.items i.order i.small
    (gap_before c.args.mapper.now sorted c.loop-glyph.next c.args.count c.loop-glyph.glyph-index c.args.count same up i.seen (omega arith) (λ j a b. absurd (omega (arith, c.loop-glyph-test.false))))
