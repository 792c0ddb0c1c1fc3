use Rattle.std.proofs.Common.{◌≤◌, ◌-◌, ℕ, List, length}
use Rattle.subsetter_type2.specs.Runs.Output.{Written}
use Rattle.subsetter_type2.specs.Runs.OutputView.{IsOutput}
use Rattle.subsetter_type2.specs.Stretches.Stretch.{Comes, IsSound}
use Rattle.subsetter_type2.proofs.stretches.scanning.find_stretch.Given as goal

abbrev pub invariant-loop-next : goal.invariant-loop-next
invariant-loop-next l = record {
  comes : (bytes : List ℕ) (settled : ℕ) (w : Written) → IsOutput bytes settled l.count w → Comes l.charstring l.mask_len bytes settled w l.stretch;
  sound : IsSound l.stretch;
  inside : l.stretch.len ≤ length l.charstring;
  few : l.stretch.tokens ≤ l.tokens;
}

abbrev pub decreases-loop-next : goal.decreases-loop-next
decreases-loop-next l = length l.charstring - l.stretch.len
