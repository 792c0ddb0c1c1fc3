-- What the code's values mean.
use Rattle.std.specs.Prelude.{ℕ, List, [], ◌++◌, map, reverse, Option, Some, None, Result, Ok, Err}
use Rattle.std.specs.Borrow.{Bor}
use Rattle.subsetter_base.specs.declared.error.Error.{Error}
use Rattle.subsetter_type2.specs.Runs.Machine.{Registers, Continuation, Act, Does, Fails, Event}
use Rattle.subsetter_type2.specs.Flat.{flat_event}

-- the rests, the running one first
abbrev pub rests_of : List (Bor (List ℕ)) → List (List ℕ)
rests_of rests = map (λ r. r.now) (reverse rests)

abbrev pub event_bytes : Option Event → List ℕ
event_bytes None = []
event_bytes (Some event) = flat_event event

-- what an act leaves: the registers, the bytes that are then settled, and what runs next
pub record Done : Type 0 where
  pub registers : Registers
  pub settled : List ℕ
  pub lead : Continuation

abbrev pub done : Act → List ℕ → Result Done Error
done (Does said next lead) settled =
    Ok (record { registers = next; settled = settled ++ event_bytes said; lead = lead })
done (Fails error) settled = Err error
