-- What a charstring that is run to its end does, whatever its callers have left.
use Rattle.std.specs.Prelude.{◌≡◌, ◌≢◌, ℕ, ◌+◌, List, [], ◌∷◌, length, Result, MatchResult}
use Rattle.subsetter_base.specs.declared.error.Error.{Error}
use Rattle.subsetter_base.specs.declared.error.Error.TheVariants.{OutOfMemory}
use Rattle.subsetter_type2.specs.declared.runs.recursion.CharStringEnd.{CharStringEnd}
use Rattle.subsetter_type2.specs.declared.runs.recursion.CharStringEnd.TheVariants.{Return, EndChar}
use Rattle.subsetter_type2.specs.declared.runs.recursion.Recursion.{Recursion}
use Rattle.subsetter_type2.specs.Runs.Machine.{Library, Outcome, Stops}
use Rattle.subsetter_type2.specs.Runs.MachineView.{registers_of}
use Rattle.subsetter_type2.specs.Runs.Reached.{Reached}

abbrev pub rests_at_end : CharStringEnd → List (List ℕ) → List (List ℕ)
rests_at_end Return callers = callers
rests_at_end EndChar callers = []

-- the run with this outcome has come to the recursion's registers, with these rests
abbrev pub Comes : Outcome → Library → ℕ → Recursion → List (List ℕ) → Type 0
Comes o library limit d rests =
    Reached o library limit d.tokens
    (record { rests = rests; registers = registers_of (λ w. w) d.machine }) d.machine.output.settled

-- each run that comes to the start of this charstring, `depth` deep, comes to its end, or to this fault
abbrev pub RunsThrough : Library → ℕ → ℕ → List ℕ → Recursion → Recursion → Result CharStringEnd Error → Type 0
RunsThrough library limit depth charstring old new result =
    MatchResult result
    (λ end. (o : Outcome) (callers : List (List ℕ)) → length callers + 1 ≡ depth
    → Comes o library limit old (charstring ∷ callers) → Comes o library limit new (rests_at_end end callers))
    (λ error. error ≢ OutOfMemory → (o : Outcome) (callers : List (List ℕ)) → length callers + 1 ≡ depth
    → Comes o library limit old (charstring ∷ callers) → o ≡ Stops error)
