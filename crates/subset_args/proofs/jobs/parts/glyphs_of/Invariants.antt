use Rattle.std.proofs.Common.{◌≡◌, ◌++◌, map, drop}
use Rattle.std.specs.Option.{option_map}
use Rattle.subset_args.specs.Words.{number_in_bits}
use Rattle.subset_args.specs.Request.{all_some, glyph_list}
use Rattle.subset_args.proofs.WordLaws.{texts}
use Rattle.subset_args.proofs.jobs.parts.glyphs_of.Given as goal

abbrev pub invariant-loop-part : goal.invariant-loop-part
invariant-loop-part l = option_map (λ more. l.glyphs.items ++ more) (all_some (map (number_in_bits 16) (texts (drop l.part-index l.part-items)))) ≡ glyph_list l.list
