use Rattle.std.proofs.Common.{◌≡◌, ◌≤◌, ◌+◌, ◌-◌, ◌*◌, ◌^◌, [], length, take}
use Rattle.subsetter.specs.Glyf.Reaching.Closure.{AreFound, EndsWith}
use Rattle.subsetter.specs.Glyf.View.{seen}
use Rattle.subsetter.proofs.GlyfLaws.ReachingLaws.Closure.{Follows}
use Rattle.subsetter.proofs.GlyfLaws.ReachingLaws.Found.{FoundFrom}
use Rattle.subsetter.proofs.GlyfLaws.BareOutlinesLaws.Sizes.{IsCounted}
use Rattle.subsetter.proofs.GlyfLaws.ReachingLaws.Taken.{heads_in}
use Rattle.subsetter.proofs.glyf.closure.Given as goal

abbrev pub invariant-loop-left : goal.invariant-loop-left
invariant-loop-left l = record {
  within : l.left ≤ length l.mapper;
  first_bytes : EndsWith (heads_in (seen l.table) (take l.left l.mapper)) l.first_bytes.items;
  follows : Follows (seen l.table) l.mapper (take l.left l.mapper) [] l.order;
  none_waits : l.waiting.items ≡ [];
  outlines : AreFound (seen l.table) l.order l.outlines.items;
  found : FoundFrom (seen l.table) l.mapper (take l.left l.mapper) [] l.order;
  within_most : l.size.bytes ≤ l.most;
  counted : IsCounted (seen l.table) l.mapper (take l.left l.mapper) l.order l.size.bytes l.size.cut;
}

abbrev pub decreases-loop-left : goal.decreases-loop-left
decreases-loop-left l = l.left

abbrev pub invariant-loop-component : goal.invariant-loop-component
invariant-loop-component l = record {
  follows : Follows (seen l.table) l.mapper (take l.left l.mapper) l.waiting.items l.order;
  outlines : AreFound (seen l.table) l.order l.outlines.items;
  found : FoundFrom (seen l.table) l.mapper (take l.left l.mapper) l.waiting.items l.order;
  within_most : l.size.bytes ≤ l.most;
  counted : IsCounted (seen l.table) l.mapper (take l.left l.mapper) l.order l.size.bytes l.size.cut;
}

abbrev pub decreases-loop-component : goal.decreases-loop-component
decreases-loop-component l = (65536 - length l.order) * 2 ^ 40 + length l.waiting.items
