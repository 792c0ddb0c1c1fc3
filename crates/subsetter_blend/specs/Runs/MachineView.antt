-- What the code's machine is.
use Rattle.std.specs.Prelude.{◌≡◌, ◌≢◌, ℕ, ℤ, List, Option, None, Result, Ok, Err, MatchResult}
use Rattle.subsetter_base.specs.declared.error.Error.{Error}
use Rattle.subsetter_base.specs.declared.error.Error.TheVariants.{OutOfMemory}
use Rattle.subsetter_type2.specs.Runs.Machine.{Continuation, On, Into}
use Rattle.subsetter_blend.specs.declared.runs.machine.Machine.{Machine}
use Rattle.subsetter_blend.specs.declared.runs.machine.Subroutines.{Subroutines}
use Rattle.subsetter_blend.specs.declared.runs.machine.Flow.{Flow}
use Rattle.subsetter_blend.specs.declared.runs.machine.Flow.TheVariants.{GoesOn, Calls}
use Rattle.subsetter_blend.specs.Runs.Machine.{Setting, Registers, Act, Does, Fails, done}
use Rattle.subsetter_blend.specs.Writing.Taking.{Event}

abbrev pub registers_of : Machine → Registers
registers_of m =
    record {
      operands = m.operands;
      stems = m.stems;
      mask_len = m.mask_len;
      data_index = m.data_index;
      settled = m.settled;
    }

abbrev pub setting_of : Subroutines → (ℕ → Option (List ℤ)) → Setting
setting_of subroutines scalars =
    record { library = record { global = subroutines.global; local = subroutines.local }; scalars = scalars }

abbrev pub continuation_of : Flow → Continuation
continuation_of (GoesOn rest) = On rest.now
continuation_of (Calls body rest) = Into body.now rest.now

-- the call did this act, which says no event, or reports its fault
abbrev pub Silently : Act → Machine → Result Flow Error → Type 0
Silently a new result =
    MatchResult result (λ flow. a ≡ Does None (registers_of new) (continuation_of flow)) (λ error. a ≡ Fails error)

-- the call did this act, or reports its fault, want of memory aside
abbrev pub Performs : {S : Type 0} → Act → (Event → S → Result S Error) → Machine → S → S → Result Flow Error → Type 0
Performs a taken new before after result =
    MatchResult result
    (λ flow.
    done taken a before ≡ Ok (record { registers = registers_of new; taken = after; lead = continuation_of flow }))
    (λ error. error ≢ OutOfMemory → done taken a before ≡ Err error)
