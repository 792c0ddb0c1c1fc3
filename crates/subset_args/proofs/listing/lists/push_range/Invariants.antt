use Rattle.std.proofs.Common.{◌≡◌, ◌+◌, ◌-◌, ◌++◌}
use Rattle.subset_args.specs.Listing.Lists.{counting}
use Rattle.subset_args.proofs.listing.lists.push_range.Given as goal

abbrev pub invariant-loop-number : goal.invariant-loop-number
invariant-loop-number l = l.glyphs.items ++ counting l.number (l.last + 1 - l.number) ≡ l.fn.glyphs.items ++ counting l.first (l.last + 1 - l.first)
