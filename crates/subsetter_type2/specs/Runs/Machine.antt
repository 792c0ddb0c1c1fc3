-- The machine that runs a charstring (Technical Note 5177, sections 3 and 4). It puts no subroutine into another:
-- it keeps, of each charstring that it has entered, the bytes that are left.
use Rattle.std.specs.Prelude.{ℕ, zero, suc, ◌+◌, ◌-◌, ◌/◌, List, [], ◌∷◌, ◌++◌, Option, Some, None, nat_lt, nat_le}
use Rattle.std.specs.Prelude.{◌==◌, if◌then◌else◌, length, take, drop, slice_get}
use Rattle.std.specs.Option.{option_and_then}
use Rattle.subsetter_base.specs.declared.error.Error.{Error}
use Rattle.subsetter_base.specs.declared.error.Error.TheVariants.{CFFError, Unimplemented}
use Rattle.subsetter_cffdata.specs.declared.numerals.charstring_number.CharStringNumber.{CharStringNumber}
use Rattle.subsetter_cffdata.specs.declared.dicts.operator.Operator.{Operator}
use Rattle.subsetter_type2.specs.declared.token.Effect.{Effect}
use Rattle.subsetter_type2.specs.declared.token.Effect.TheVariants.{CountsStems, Draws, CallsLocal, CallsGlobal}
use Rattle.subsetter_type2.specs.declared.token.Effect.TheVariants.{Returns, Ends, Masks}
use Rattle.subsetter_cffdata.specs.Numerals.CharStringNumber.{number_at, whole_of}
use Rattle.subsetter_type2.specs.Subroutines.{biased_entry}
use Rattle.subsetter_type2.specs.Token.{Token, Operand, Operation, token_of, effect_of}

-- the subroutines that a charstring may call, with none for an unreadable entry
pub record Library : Type 0 where
  pub global : List (Option (List ℕ))
  pub local : List (Option (List ℕ))

-- the operands, the last one pushed last; the stems so far; and the bytes of a mask, or 0 before the first one
pub record Registers : Type 0 where
  pub operands : List CharStringNumber
  pub stems : ℕ
  pub mask_len : ℕ

-- what is left of the running charstring, then of its callers; and the registers
pub record State : Type 0 where
  pub rests : List (List ℕ)
  pub registers : Registers

-- an operator with the operands and the mask that it takes
pub record Event : Type 0 where
  pub operator : Operator
  pub operands : List CharStringNumber
  pub mask : List ℕ

-- what runs next: on with the rest of its charstring, into a subroutine and then on with the rest,
-- back to the caller, or to the end of the glyph
pub data Continuation : Type 0 where
  On : (rest : List ℕ) → Continuation
  Into : (body rest : List ℕ) → Continuation
  Back : Continuation
  Over : Continuation

-- what a token does: perhaps an event, new registers and what runs next; or a fault
pub data Act : Type 0 where
  Does : (said : Option Event) (next : Registers) (lead : Continuation) → Act
  Fails : (error : Error) → Act

-- the subroutine that this operand names; none where it names none, or an unreadable one
unfoldable pub subroutine : List (Option (List ℕ)) → CharStringNumber → Option (List ℕ)
subroutine entries number = option_and_then (biased_entry entries) (whole_of number)

abbrev pub last_operand : List CharStringNumber → Option CharStringNumber
last_operand operands = slice_get operands (length operands - 1)

abbrev pub but_last : List CharStringNumber → List CharStringNumber
but_last operands = take (length operands - 1) operands

-- In what follows `rest` is what is after the token in its charstring.

-- a number is put onto the stack, which holds 48
abbrev pub push : CharStringNumber → List ℕ → Registers → Act
push number rest r =
    if nat_lt (length r.operands) 48
    then Does None (record r { operands = r.operands ++ number ∷ [] }) (On rest)
    else Fails CFFError

-- an operator that takes all operands, with its mask: an event
abbrev pub emit : Operator → List ℕ → Continuation → Registers → Act
emit operator mask lead r =
    Does (Some (record { operator = operator; operands = r.operands; mask = mask })) (record r { operands = [] }) lead

-- the stems with those of the operands, two for each
abbrev pub stems_after : Registers → ℕ
stems_after r = r.stems + length r.operands / 2

abbrev pub count_stems : Operator → List ℕ → Registers → Act
count_stems operator rest r =
    if nat_le (stems_after r) 65535
    then emit operator [] (On rest) (record r { stems = stems_after r })
    else Fails CFFError

-- a mask of `mask_len` bytes
abbrev pub take_mask : Operator → List ℕ → Registers → Act
take_mask operator rest r =
    if nat_le r.mask_len (length rest)
    then emit operator (take r.mask_len rest) (On (drop r.mask_len rest)) r
    else Fails CFFError

-- the first mask counts its operands as stems; once the length is not 0 it stays
abbrev pub mask : Operator → List ℕ → Registers → Act
mask operator rest r =
    if r.mask_len == 0
    then (if nat_le (stems_after r) 65535
    then take_mask operator rest (record r { stems = stems_after r; mask_len = (stems_after r + 7) / 8 })
    else Fails CFFError)
    else take_mask operator rest r

-- into a subroutine, if there is one
abbrev pub enter : Option (List ℕ) → List ℕ → Registers → Act
enter None rest r = Fails CFFError
enter (Some body) rest r = Does None (record r { operands = but_last r.operands }) (Into body rest)

-- calls the subroutine that the last operand names
abbrev pub call : List (Option (List ℕ)) → List ℕ → Registers → Act
call entries rest r = enter (option_and_then (subroutine entries) (last_operand r.operands)) rest r

-- the end of the glyph; with four operands or more it would put two glyphs together
abbrev pub end : Operator → Registers → Act
end operator r = if nat_lt (length r.operands) 4 then emit operator [] Over r else Fails Unimplemented

-- an operator, by its effect
abbrev pub operate : Library → Operator → Option Effect → List ℕ → Registers → Act
operate library operator None rest r = Fails CFFError
operate library operator (Some CountsStems) rest r = count_stems operator rest r
operate library operator (Some Draws) rest r = emit operator [] (On rest) r
operate library operator (Some CallsLocal) rest r = call library.local rest r
operate library operator (Some CallsGlobal) rest r = call library.global rest r
operate library operator (Some Returns) rest r = Does None r Back
operate library operator (Some Ends) rest r = end operator r
operate library operator (Some Masks) rest r = mask operator rest r

-- what a token does
abbrev pub act : Library → Token → List ℕ → Registers → Act
act library (Operand number) rest r = push number rest r
act library (Operation operator) rest r = operate library operator (effect_of operator) rest r

abbrev pub act_on : Library → Option (Token × List ℕ) → Registers → Act
act_on library None r = Fails CFFError
act_on library (Some t) r = act library t.0 t.1 r

-- what a number at the front of these bytes does
abbrev pub pushed : Option (CharStringNumber × List ℕ) → Registers → Act
pushed None r = Fails CFFError
pushed (Some n) r = push n.0 n.1 r

unfoldable pub push_at : List ℕ → Registers → Act
push_at bytes r = pushed (number_at bytes) r

-- what the token at the front of these bytes does
unfoldable pub act_at : Library → List ℕ → Registers → Act
act_at library bytes r = act_on library (token_of bytes) r

-- what is left to run after a token, where the callers have these bytes left
abbrev pub rests_after : Continuation → List (List ℕ) → List (List ℕ)
rests_after (On rest) callers = rest ∷ callers
rests_after (Into body rest) callers = body ∷ rest ∷ callers
rests_after Back callers = callers
rests_after Over callers = []

-- one step: perhaps an event, and the new state; or a fault
pub data Step : Type 0 where
  Goes : (said : Option Event) (next : State) → Step
  Faults : (error : Error) → Step

-- the step that an act makes, no deeper than the limit
abbrev pub move : ℕ → List (List ℕ) → Act → Step
move depth callers (Fails error) = Faults error
move depth callers (Does said next lead) =
    if nat_le (length (rests_after lead callers)) depth
    then Goes said (record { rests = rests_after lead callers; registers = next })
    else Faults CFFError

-- the end of a charstring returns to its caller
abbrev pub unended : List (List ℕ) → List (List ℕ)
unended [] = []
unended ([] ∷ callers) = unended callers
unended ((b ∷ bytes) ∷ callers) = (b ∷ bytes) ∷ callers

-- how a run ends: with its events and the operands that are left, or with a fault
pub record Trace : Type 0 where
  pub events : List Event
  pub left : List CharStringNumber

pub data Outcome : Type 0 where
  Finishes : (trace : Trace) → Outcome
  Stops : (error : Error) → Outcome

abbrev pub with_event : List Event → Option Event → List Event
with_event said None = said
with_event said (Some event) = said ++ event ∷ []

-- continues from a step
abbrev pub follow : Step → List Event → (List Event → State → Outcome) → Outcome
follow (Goes event next) said go = go (with_event said event) next
follow (Faults error) said go = Stops error

-- the run is over where nothing is left to run, and else it needs a token
abbrev pub ended_or : List (List ℕ) → Outcome → (List ℕ → List (List ℕ) → Outcome) → Outcome
ended_or [] over go = over
ended_or (bytes ∷ callers) over go = go bytes callers

-- a run from a state in which these events have come, with at most n tokens
unfoldable pub run : Library → ℕ → ℕ → List Event → State → Outcome
run library depth zero said s =
    ended_or (unended s.rests) (Finishes (record { events = said; left = s.registers.operands }))
    (λ bytes callers. Stops CFFError)
run library depth (suc tokens) said s =
    ended_or (unended s.rests) (Finishes (record { events = said; left = s.registers.operands }))
    (λ bytes callers. follow (move depth callers (act_at library bytes s.registers)) said (run library depth tokens))

abbrev pub start : List ℕ → State
start charstring = record { rests = charstring ∷ []; registers = record { operands = []; stems = 0; mask_len = 0 } }

-- how the run of a glyph's own charstring ends, with at most `tokens` tokens, and at most `depth` charstrings under way
-- at once, its own among them
unfoldable pub outcome : Library → ℕ → ℕ → List ℕ → Outcome
outcome library tokens depth charstring = run library depth tokens [] (start charstring)

-- the trace of a run that finishes
abbrev pub trace_of : Outcome → Option Trace
trace_of (Finishes trace) = Some trace
trace_of (Stops error) = None

-- the trace of a glyph's own charstring; none where its run faults
abbrev pub trace : Library → ℕ → ℕ → List ℕ → Option Trace
trace library tokens depth charstring = trace_of (outcome library tokens depth charstring)
