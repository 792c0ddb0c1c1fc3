-- A trace as the bytes of a charstring without subroutines: for each event its operands, each in its shortest form
-- (Technical Note 5177, section 3.2 "Charstring Number Encoding"), the operator and its mask; then the operands that
-- are left.
use Rattle.std.specs.Prelude.{ℕ, List, ◌++◌, Result, Ok, Err}
use Rattle.std.specs.List.{flat_map}
use Rattle.subsetter_base.specs.declared.error.Error.{Error}
use Rattle.subsetter_cffdata.specs.declared.numerals.charstring_number.CharStringNumber.{CharStringNumber}
use Rattle.subsetter_cffdata.specs.Numerals.CharStringNumber.{written}
use Rattle.subsetter_cffdata.specs.Views.{operator_of}
use Rattle.subsetter_type2.specs.Runs.Machine.{Library, Event, Trace, Outcome, Finishes, Stops, outcome}

abbrev pub flat_operands : List CharStringNumber → List ℕ
flat_operands numbers = flat_map written numbers

abbrev pub flat_event : Event → List ℕ
flat_event e = flat_operands e.operands ++ (operator_of e.operator ++ e.mask)

abbrev pub flat_events : List Event → List ℕ
flat_events events = flat_map flat_event events

abbrev pub flat : Trace → List ℕ
flat trace = flat_events trace.events ++ flat_operands trace.left

-- the trace of a finished run as bytes, or the run's fault
abbrev pub bytes_of : Outcome → Result (List ℕ) Error
bytes_of (Finishes trace) = Ok (flat trace)
bytes_of (Stops error) = Err error

-- the flat form of a charstring: its run as bytes
abbrev pub flat_form : Library → ℕ → ℕ → List ℕ → Result (List ℕ) Error
flat_form library tokens depth charstring = bytes_of (outcome library tokens depth charstring)
