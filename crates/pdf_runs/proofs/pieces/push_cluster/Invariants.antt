use Rattle.std.proofs.Common.{◌≡◌, ◌++◌, drop}
use Rattle.pdf_runs.specs.Pieces.{pieces_of_cluster, shares_of, spread_all}
use Rattle.pdf_runs.proofs.pieces.push_cluster.Given as goal

abbrev pub invariant-loop-place : goal.invariant-loop-place
invariant-loop-place l =
    l.pieces.items ++ spread_all l.inked (drop l.place l.items) (drop l.place (shares_of l.direction l.items))
    ≡ l.fn.pieces.items ++ pieces_of_cluster l.direction l.inked l.items
