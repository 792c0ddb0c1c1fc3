use Rattle.std.proofs.Common.{◌≡◌, drop}
use Rattle.pdf_runs.specs.Shaped.{next_place}
use Rattle.pdf_runs.proofs.shaped.next_place.Given as goal

abbrev pub invariant-loop-other : goal.invariant-loop-other
invariant-loop-other l = next_place l.count l.place (drop l.other-index l.later) ≡ next_place l.count l.place l.later
