-- The registers of the code's machine.
use Rattle.std.specs.Prelude.{◌≡◌, ◌≢◌, Result, Ok, Err, MatchResult}
use Rattle.subsetter_base.specs.declared.error.Error.{Error}
use Rattle.subsetter_base.specs.declared.error.Error.TheVariants.{OutOfMemory}
use Rattle.subsetter_type2.specs.declared.runs.machine.Machine.{Machine}
use Rattle.subsetter_type2.specs.declared.runs.machine.Subroutines.{Subroutines}
use Rattle.subsetter_type2.specs.declared.runs.machine.Flow.{Flow}
use Rattle.subsetter_type2.specs.declared.runs.machine.Flow.TheVariants.{GoesOn, Calls, Returns, Ends}
use Rattle.subsetter_type2.specs.Runs.Machine.{Registers, Library, Act, Continuation, On, Into, Back, Over}
use Rattle.subsetter_type2.specs.Runs.Output.{Written}
use Rattle.subsetter_type2.specs.View.{done}

abbrev pub registers_of : {S : Type 0} → (S → Written) → Machine S → Registers
registers_of written m = record { operands = (written m.output).operands; stems = m.stems; mask_len = m.mask_len }

abbrev pub library_of : Subroutines → Library
library_of s = record { global = s.global; local = s.local }

abbrev pub continuation_of : Flow → Continuation
continuation_of (GoesOn rest) = On rest.now
continuation_of (Calls body rest) = Into body.now rest.now
continuation_of Returns = Back
continuation_of Ends = Over

-- the call did this act, or reports its fault, want of memory aside
abbrev pub Performs : {S : Type 0} → Act → (S → Written) → Machine S → Machine S → Result Flow Error → Type 0
Performs a written old new result =
    MatchResult result
    (λ flow. done a (written old.output).settled
    ≡ Ok (record {
      registers = registers_of written new;
      settled = (written new.output).settled;
      lead = continuation_of flow;
    }))
    (λ error. error ≢ OutOfMemory → done a (written old.output).settled ≡ Err error)
