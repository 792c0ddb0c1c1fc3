use Rattle.std.proofs.Common.{◌≡◌, ◌-◌, ◌++◌, map, take, drop}
use Rattle.pdf_runs.specs.Items.{visual}
use Rattle.pdf_runs.specs.Pieces.{blank_of}
use Rattle.pdf_runs.proofs.pieces.push_blanks.Given as goal

abbrev pub invariant-loop-place : goal.invariant-loop-place
invariant-loop-place l =
    l.pieces.items ++ map blank_of (take (l.end - l.place) (drop l.place (visual l.direction l.share)))
    ≡ l.fn.pieces.items ++ map blank_of (take (l.end - l.start) (drop l.start (visual l.direction l.share)))
