use Rattle.std.proofs.Common.{◌≡◌, ◌≤◌, ◌+◌, ℕ, List, ◌∷◌, length}
use Rattle.subsetter_type2.specs.Runs.Machine.{Outcome}
use Rattle.subsetter_type2.specs.Runs.MachineView.{library_of}
use Rattle.subsetter_type2.specs.Runs.Recursion.{Comes}
use Rattle.subsetter_type2.proofs.runs.recursion.Recursion.+run.Given as goal

abbrev pub decreases-run : goal.decreases-run
decreases-run l = l.self.now.tokens

abbrev pub invariant-loop-rest : goal.invariant-loop-rest
invariant-loop-rest l = record {
  came : (o : Outcome) (callers : List (List ℕ)) → length callers + 1 ≡ l.depth
      → Comes o (library_of l.subroutines) l.limit l.initial.self (l.charstring ∷ callers)
      → Comes o (library_of l.subroutines) l.limit l.self (l.rest ∷ callers);
  fewer : l.self.tokens ≤ l.initial.self.tokens;
}

abbrev pub decreases-loop-rest : goal.decreases-loop-rest
decreases-loop-rest l = l.self.tokens
