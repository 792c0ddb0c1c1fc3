-- How far a run has come.
use Rattle.std.specs.Prelude.{◌≡◌, ℕ, List}
use Rattle.subsetter_type2.specs.Runs.Machine.{Library, State, Event, Outcome, run}
use Rattle.subsetter_type2.specs.Flat.{flat_events}

-- the run with this outcome continues from this state with `tokens` tokens left, and its events so far are settled
pub record Reached (o : Outcome) (library : Library) (depth tokens : ℕ) (s : State) (settled : List ℕ) : Type 0 where
  pub said : List Event
  pub settled_is : settled ≡ flat_events said
  pub same : o ≡ run library depth tokens said s
