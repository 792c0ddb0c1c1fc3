use Rattle.std.proofs.Common.{◌≡◌, length, map}
use Rattle.subset_args.specs.Request.{each_requested}
use Rattle.subset_args.specs.View.{requested_view, source_view}
use Rattle.subset_args.proofs.Pieces.{in_front}
use Rattle.subset_args.proofs.jobs.parts.each_requested.Given as goal

abbrev pub invariant-loop-rest : goal.invariant-loop-rest
invariant-loop-rest l = in_front (map requested_view l.glyphs.items) (each_requested (map source_view l.rest)) ≡ each_requested (map source_view l.sources)

abbrev pub decreases-loop-rest : goal.decreases-loop-rest
decreases-loop-rest l = length l.rest
