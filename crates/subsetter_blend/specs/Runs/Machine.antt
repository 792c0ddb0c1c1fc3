-- The machine that runs a CFF2 charstring (OpenType, "CFF2 CharString Format"; Technical Note 5177, sections 3 and 4).
use Rattle.std.specs.Prelude.{ℕ, zero, suc, ◌+◌, ◌-◌, ◌/◌, ℤ, List, [], ◌∷◌, ◌++◌, Bool, true, false, Option, Some}
use Rattle.std.specs.Prelude.{None, Result, Ok, Err, nat_lt, nat_le, ◌==◌, if◌then◌else◌, length, take, drop, slice_get}
use Rattle.std.specs.Option.{option_and_then}
use Rattle.subsetter_base.specs.declared.error.Error.{Error}
use Rattle.subsetter_base.specs.declared.error.Error.TheVariants.{CFFError, OverflowError}
use Rattle.subsetter_cffdata.specs.declared.numerals.charstring_number.CharStringNumber.{CharStringNumber}
use Rattle.subsetter_cffdata.specs.declared.dicts.operator.Operator.{Operator}
use Rattle.subsetter_cffdata.specs.Numerals.CharStringNumber.{number_at}
use Rattle.subsetter_type2.specs.Runs.Machine.{Library, Continuation, On, Into, rests_after, unended}
use Rattle.subsetter_type2.specs.Subroutines.{biased_entry}
use Rattle.subsetter_type2.specs.Token.{Token, Operand, Operation, token_of}
use Rattle.subsetter_blend.specs.declared.runs.kind.Kind.{Kind}
use Rattle.subsetter_blend.specs.declared.runs.kind.Kind.TheVariants.{ChoosesData, Blends, CountsStems, Draws}
use Rattle.subsetter_blend.specs.declared.runs.kind.Kind.TheVariants.{CallsLocal, CallsGlobal, Masks}
use Rattle.subsetter_blend.specs.Runs.Number.{in_parts, are_within, whole_in, natural_in}
use Rattle.subsetter_blend.specs.Runs.Blend.{blended}
use Rattle.subsetter_blend.specs.Runs.Kind.{operator_kind, accepts}
use Rattle.subsetter_blend.specs.Writing.Taking.{Event}

-- the subroutines that a charstring may call, and the scalars of the regions of each item variation data, where there
-- are such data
pub record Setting : Type 0 where
  pub library : Library
  pub scalars : ℕ → Option (List ℤ)

-- The operands, the last one pushed last; the stems so far; the bytes of a mask, or 0 before the first one; which item
-- variation data count, and whether that is settled: a blend or a vsindex was met.
pub record Registers : Type 0 where
  pub operands : List ℤ
  pub stems : ℕ
  pub mask_len : ℕ
  pub data_index : ℕ
  pub settled : Bool

-- what is left of the running charstring, then of its callers; and the registers
pub record State : Type 0 where
  pub rests : List (List ℕ)
  pub registers : Registers

-- what a token does: perhaps an event, new registers and what runs next; or a fault
pub data Act : Type 0 where
  Does : (said : Option Event) (next : Registers) (lead : Continuation) → Act
  Fails : (error : Error) → Act

abbrev pub last_operand : List ℤ → Option ℤ
last_operand operands = slice_get operands (length operands - 1)

abbrev pub but_last : List ℤ → List ℤ
but_last operands = take (length operands - 1) operands

-- In what follows `rest` is what is after the token in its charstring.

-- a number is put onto the stack, which holds 513
abbrev pub push : CharStringNumber → List ℕ → Registers → Act
push number rest r =
    if nat_lt (length r.operands) 513
    then Does None (record r { operands = r.operands ++ in_parts number ∷ [] }) (On rest)
    else Fails CFFError

-- an operator that takes all operands, with its mask: an event
abbrev pub emit : Operator → List ℕ → List ℕ → Registers → Act
emit operator mask rest r =
    if accepts operator (length r.operands)
    then Does (Some (record { operator = operator; operands = r.operands; mask = mask }))
    (record r { operands = [] }) (On rest)
    else Fails CFFError

-- the stems with those of the operands, two for each
abbrev pub stems_after : Registers → ℕ
stems_after r = r.stems + length r.operands / 2

abbrev pub count_stems : Operator → List ℕ → Registers → Act
count_stems operator rest r =
    if nat_le (stems_after r) 65535
    then emit operator [] rest (record r { stems = stems_after r })
    else Fails CFFError

-- a mask of `mask_len` bytes
abbrev pub take_mask : Operator → List ℕ → Registers → Act
take_mask operator rest r =
    if nat_le r.mask_len (length rest)
    then emit operator (take r.mask_len rest) (drop r.mask_len rest) r
    else Fails CFFError

-- the first mask counts its operands as stems; a later one has none
abbrev pub mask : Operator → List ℕ → Registers → Act
mask operator rest r =
    if r.mask_len == 0
    then (if nat_le (stems_after r) 65535
    then take_mask operator rest (record r { stems = stems_after r; mask_len = (stems_after r + 7) / 8 })
    else Fails CFFError)
    else if length r.operands == 0 then take_mask operator rest r
    else Fails CFFError

-- the subroutine that this operand names; none where it names none, or an unreadable one
unfoldable pub subroutine : List (Option (List ℕ)) → ℤ → Option (List ℕ)
subroutine entries number = option_and_then (biased_entry entries) (whole_in number)

-- into a subroutine, if there is one
abbrev pub enter : Option (List ℕ) → List ℕ → Registers → Act
enter None rest r = Fails CFFError
enter (Some body) rest r = Does None (record r { operands = but_last r.operands }) (Into body rest)

-- calls the subroutine that the last operand names
abbrev pub call : List (Option (List ℕ)) → List ℕ → Registers → Act
call entries rest r = enter (option_and_then (subroutine entries) (last_operand r.operands)) rest r

-- the whole number that the last operand is, not below 0
abbrev pub last_natural : Registers → Option ℕ
last_natural r = option_and_then natural_in (last_operand r.operands)

-- the operands with the results of a blend, if it has any
abbrev pub stacked : Option (List ℤ) → List ℕ → Registers → Act
stacked None rest r = Fails CFFError
stacked (Some operands) rest r =
    if are_within operands then Does None (record r { operands = operands; settled = true }) (On rest)
    else Fails OverflowError

abbrev pub blended_by : Option (List ℤ) → Option ℕ → List ℤ → Option (List ℤ)
blended_by None n operands = None
blended_by (Some scalars) None operands = None
blended_by (Some scalars) (Some n) operands = blended scalars n operands

-- the last operand says how many of those before it are results, by the scalars of the data
abbrev pub blend : (ℕ → Option (List ℤ)) → List ℕ → Registers → Act
blend scalars rest r = stacked (blended_by (scalars r.data_index) (last_natural r) (but_last r.operands)) rest r

abbrev pub if_there : Option (List ℤ) → Act → Act
if_there None act = Fails CFFError
if_there (Some scalars) act = act

-- data of this number, where there are any
abbrev pub chosen : Option ℕ → (ℕ → Option (List ℤ)) → List ℕ → Registers → Act
chosen None scalars rest r = Fails CFFError
chosen (Some n) scalars rest r =
    if_there (scalars n) (Does None (record r { operands = []; data_index = n; settled = true }) (On rest))

-- vsindex: once, before the first blend, with its one operand
abbrev pub choose : (ℕ → Option (List ℤ)) → List ℕ → Registers → Act
choose scalars rest r =
    if r.settled then Fails CFFError
    else if length r.operands == 1 then chosen (last_natural r) scalars rest r
    else Fails CFFError

-- an operator, by its kind
abbrev pub operate : Setting → Operator → Option Kind → List ℕ → Registers → Act
operate setting operator None rest r = Fails CFFError
operate setting operator (Some ChoosesData) rest r = choose setting.scalars rest r
operate setting operator (Some Blends) rest r = blend setting.scalars rest r
operate setting operator (Some CountsStems) rest r = count_stems operator rest r
operate setting operator (Some Draws) rest r = emit operator [] rest r
operate setting operator (Some CallsLocal) rest r = call setting.library.local rest r
operate setting operator (Some CallsGlobal) rest r = call setting.library.global rest r
operate setting operator (Some Masks) rest r = mask operator rest r

-- what a token does
abbrev pub act : Setting → Token → List ℕ → Registers → Act
act setting (Operand number) rest r = push number rest r
act setting (Operation operator) rest r = operate setting operator (operator_kind operator) rest r

abbrev pub act_on : Setting → Option (Token × List ℕ) → Registers → Act
act_on setting None r = Fails CFFError
act_on setting (Some t) r = act setting t.0 t.1 r

-- what a number at the front of these bytes does
abbrev pub pushed : Option (CharStringNumber × List ℕ) → Registers → Act
pushed None r = Fails CFFError
pushed (Some n) r = push n.0 n.1 r

unfoldable pub push_at : List ℕ → Registers → Act
push_at bytes r = pushed (number_at bytes) r

-- what the token at the front of these bytes does
unfoldable pub act_at : Setting → List ℕ → Registers → Act
act_at setting bytes r = act_on setting (token_of bytes) r

-- ---- the run, whose events something takes, one after the other
-- what an act leaves: the registers, what has taken its event, and what runs next
pub record Done (S : Type 0) : Type 0 where
  pub registers : Registers
  pub taken : S
  pub lead : Continuation

abbrev pub taken_also : {S : Type 0} → (Event → S → Result S Error) → Option Event → S → Result S Error
taken_also take None s = Ok s
taken_also take (Some event) s = take event s

abbrev pub done_with : {S : Type 0} → Registers → Continuation → Result S Error → Result (Done S) Error
done_with next lead (Ok s) = Ok (record { registers = next; taken = s; lead = lead })
done_with next lead (Err e) = Err e

abbrev pub done : {S : Type 0} → (Event → S → Result S Error) → Act → S → Result (Done S) Error
done take (Does said next lead) s = done_with next lead (taken_also take said s)
done take (Fails error) s = Err error

-- continues from an act, no deeper than the limit
abbrev pub follow : {S : Type 0} → ℕ → List (List ℕ) → Result (Done S) Error → (S → State → Result S Error)
    → Result S Error
follow depth callers (Err error) go = Err error
follow depth callers (Ok d) go =
    if nat_le (length (rests_after d.lead callers)) depth
    then go d.taken (record { rests = rests_after d.lead callers; registers = d.registers })
    else Err CFFError

-- the run is over where nothing is left to run, and else it needs a token
abbrev pub ended_or : {S : Type 0} → List (List ℕ) → Result S Error → (List ℕ → List (List ℕ) → Result S Error)
    → Result S Error
ended_or [] over go = over
ended_or (bytes ∷ callers) over go = go bytes callers

-- no operand is left at the end
abbrev pub ended : {S : Type 0} → S → List ℤ → Result S Error
ended s [] = Ok s
ended s (z ∷ zs) = Err CFFError

-- a run from a state, with at most n tokens
unfoldable pub run : {S : Type 0} → (Event → S → Result S Error) → Setting → ℕ → ℕ → S → State → Result S Error
run take setting depth zero s state =
    ended_or (unended state.rests) (ended s state.registers.operands) (λ bytes callers. Err CFFError)
run take setting depth (suc tokens) s state =
    ended_or (unended state.rests) (ended s state.registers.operands)
    (λ bytes callers.
    follow depth callers (done take (act_at setting bytes state.registers) s) (run take setting depth tokens))

-- before the first token, where these item variation data count
abbrev pub start : ℕ → List ℕ → State
start data_index charstring =
    record {
      rests = charstring ∷ [];
      registers = record { operands = []; stems = 0; mask_len = 0; data_index = data_index; settled = false };
    }

-- the run of a glyph's own charstring: setting tokens depth data charstring
unfoldable pub run_all : {S : Type 0} → (Event → S → Result S Error) → Setting → ℕ → ℕ → ℕ → List ℕ → S → Result S Error
run_all take setting tokens depth data_index charstring s =
    run take setting depth tokens s (start data_index charstring)

-- the events of a run, in their order
abbrev pub also : Event → List Event → Result (List Event) Error
also event events = Ok (events ++ event ∷ [])

unfoldable pub events : Setting → ℕ → ℕ → ℕ → List ℕ → Result (List Event) Error
events setting tokens depth data_index charstring = run_all also setting tokens depth data_index charstring []
