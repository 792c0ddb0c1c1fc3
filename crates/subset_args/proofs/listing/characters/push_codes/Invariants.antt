use Rattle.std.proofs.Common.{◌≡◌, ◌+◌, ◌-◌, ◌++◌, filter}
use Rattle.subset_args.specs.Listing.Lists.{counting}
use Rattle.subsetter_base.specs.Texts.{is_scalar}
use Rattle.subset_args.proofs.listing.characters.push_codes.Given as goal

abbrev pub invariant-loop-code : goal.invariant-loop-code
invariant-loop-code l = l.characters.items ++ filter is_scalar (counting l.code (l.fn.codes.last + 1 - l.code)) ≡ l.fn.characters.items ++ filter is_scalar (counting l.fn.codes.first (l.fn.codes.last + 1 - l.fn.codes.first))
