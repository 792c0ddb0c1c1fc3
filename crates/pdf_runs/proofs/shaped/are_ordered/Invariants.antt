use Rattle.std.proofs.Common.{◌≡◌, None, drop}
use Rattle.pdf_runs.specs.Shaped.{are_ordered}
use Rattle.pdf_runs.proofs.shaped.are_ordered.Given as goal

abbrev pub invariant-loop-place : goal.invariant-loop-place
invariant-loop-place l = are_ordered l.direction l.before (drop l.place-index l.places) ≡ are_ordered l.direction None l.places
