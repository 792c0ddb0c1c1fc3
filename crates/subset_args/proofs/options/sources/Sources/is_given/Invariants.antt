use Rattle.std.proofs.Common.{◌≡◌, length, map}
use Rattle.subset_args.specs.Options.{is_given}
use Rattle.subset_args.specs.View.{source_view}
use Rattle.subset_args.proofs.options.sources.Sources.is_given.Given as goal

abbrev pub invariant-loop-rest : goal.invariant-loop-rest
invariant-loop-rest l = is_given (map source_view l.rest) l.number ≡ is_given (map source_view l.sources) l.number

abbrev pub decreases-loop-rest : goal.decreases-loop-rest
decreases-loop-rest l = length l.rest
