use Rattle.std.proofs.Common.{◌≡◌, ◌++◌, drop}
use Rattle.std.specs.Option.{option_map}
use Rattle.subset_args.specs.Listing.Characters.{parts_characters}
use Rattle.subset_args.proofs.WordLaws.{texts}
use Rattle.subset_args.proofs.listing.characters.characters_in.Given as goal

abbrev pub invariant-loop-part : goal.invariant-loop-part
invariant-loop-part l = option_map (λ more. l.characters.items ++ more) (parts_characters (texts (drop l.part-index l.parts))) ≡ parts_characters (texts l.parts)
