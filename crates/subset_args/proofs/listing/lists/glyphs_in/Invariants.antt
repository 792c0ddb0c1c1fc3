use Rattle.std.proofs.Common.{◌≡◌, ◌++◌, drop}
use Rattle.std.specs.Option.{option_map}
use Rattle.subset_args.specs.Listing.Lists.{parts_glyphs}
use Rattle.subset_args.proofs.WordLaws.{texts}
use Rattle.subset_args.proofs.listing.lists.glyphs_in.Given as goal

abbrev pub invariant-loop-part : goal.invariant-loop-part
invariant-loop-part l = option_map (λ more. l.glyphs.items ++ more) (parts_glyphs (texts (drop l.part-index l.parts))) ≡ parts_glyphs (texts l.parts)
