use Rattle.std.proofs.Common.{◌≡◌, ◌<◌, ℕ, false, not, get_or}
use Rattle.pdf_runs.specs.Items.{visual}
use Rattle.pdf_runs.specs.Marks.{is_mark}
use Rattle.pdf_runs.proofs.pieces.bearer.Given as goal

abbrev pub invariant-loop-place : goal.invariant-loop-place
invariant-loop-place l = (k : ℕ) → k < l.place → not (is_mark (get_or (visual l.direction l.share) k 0)) ≡ false
