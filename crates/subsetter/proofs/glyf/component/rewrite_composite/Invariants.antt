use Rattle.std.proofs.Common.{◌≡◌, ◌++◌, length, take, drop}
use Rattle.subsetter.proofs.GlyfLaws.Chains.{with_front, chain_text}
use Rattle.subsetter.proofs.GlyfLaws.Renumbering.{IsUnderway, IsAfter}
use Rattle.subsetter.proofs.glyf.component.rewrite_composite.Given as goal

abbrev pub invariant-loop-component : goal.invariant-loop-component
invariant-loop-component l = record {
  written : IsUnderway l.hinting l.order l.out.items l.rest (with_front (l.fn.out.items ++ take 10 l.outline) (chain_text l.hinting l.order (drop 10 l.outline)));
  start : l.start ≡ length l.fn.out.items;
  following : IsAfter l.fn.out.items l.out.items l.rest;
}

abbrev pub decreases-loop-component : goal.decreases-loop-component
decreases-loop-component l = length l.rest
