-- How far a run has come whose bytes are after others.
use Rattle.std.specs.Prelude.{◌≡◌, ℕ, List, ◌++◌}
use Rattle.subsetter_type2.specs.Runs.Machine.{Library, State, Outcome}
use Rattle.subsetter_type2.specs.Runs.Reached.{Reached}

-- the settled bytes of the run are after the front
pub record ReachedAfter (front : List ℕ) (o : Outcome) (library : Library) (depth tokens : ℕ) (s : State)
    (settled : List ℕ) : Type 0 where
  pub own : List ℕ
  pub split : settled ≡ front ++ own
  pub reached : Reached o library depth tokens s own
