use Rattle.std.proofs.Common.{◌≡◌, ◌++◌, drop}
use Rattle.std.specs.Option.{option_map}
use Rattle.subset_args.specs.Coordinates.{coordinates_of}
use Rattle.subset_args.proofs.WordLaws.{texts}
use Rattle.subset_args.proofs.coordinates.coordinates_of.Given as goal

abbrev pub invariant-loop-part : goal.invariant-loop-part
invariant-loop-part l = option_map (λ more. l.coordinates.items ++ more) (coordinates_of (texts (drop l.part-index l.parts))) ≡ coordinates_of (texts l.parts)
