use Rattle.std.proofs.Common.{◌≤◌}
use Rattle.subsetter_instance.specs.Tables.Requested.{IsOrder}
use Rattle.subsetter_instance.proofs.TablesLaws.OrderLemmas.{AreSeen}
use Rattle.subsetter_instance.proofs.tables.requested.requested_in_order.Given as goal

abbrev pub invariant-loop-glyph : goal.invariant-loop-glyph
invariant-loop-glyph l = record {
  order : IsOrder l.mapper l.next 0 l.order.items;
  seen : AreSeen l.glyph-items l.next l.count l.glyph-index;
  small : l.next ≤ l.count;
}
