-- What can stop a glyph's charstring, each fault with its error (OpenType, "CFF2 CharString Format"; Technical Note
-- 5177, sections 3 and 4).
use Rattle.std.specs.Prelude.{◌≡◌, ◌≢◌, ℕ, zero, suc, ◌<◌, ◌≤◌, ◌+◌, ◌*◌, ◌/◌, ℤ, true, false, List, [], ◌∷◌, length}
use Rattle.std.specs.Prelude.{Option, Some, None, Ok}
use Rattle.std.specs.Option.{option_and_then}
use Rattle.subsetter_base.specs.declared.error.Error.{Error}
use Rattle.subsetter_base.specs.declared.error.Error.TheVariants.{CFFError, OverflowError}
use Rattle.subsetter_cffdata.specs.declared.numerals.charstring_number.CharStringNumber.{CharStringNumber}
use Rattle.subsetter_cffdata.specs.declared.dicts.operator.Operator.{Operator}
use Rattle.subsetter_type2.specs.Runs.Machine.{Continuation, rests_after, unended}
use Rattle.subsetter_type2.specs.Token.{Operand, Operation, token_of}
use Rattle.subsetter_blend.specs.declared.runs.kind.Kind.TheVariants.{ChoosesData, Blends, CountsStems, Draws}
use Rattle.subsetter_blend.specs.declared.runs.kind.Kind.TheVariants.{CallsLocal, CallsGlobal, Masks}
use Rattle.subsetter_blend.specs.Runs.Blend.{blended}
use Rattle.subsetter_blend.specs.Writing.Flex.{opened}
use Rattle.subsetter_blend.specs.Hint.{is_hint}
use Rattle.subsetter_blend.specs.Runs.Kind.{operator_kind, accepts}
use Rattle.subsetter_blend.specs.Runs.Machine.{Setting, Registers, State, Does, act_at, but_last, last_natural}
use Rattle.subsetter_blend.specs.Runs.Machine.{last_operand, start, stems_after, subroutine, taken_also}
use Rattle.subsetter_blend.specs.Runs.Number.{are_within}
use Rattle.subsetter_blend.specs.Writing.Placed.{placed}
use Rattle.subsetter_blend.specs.Writing.Split.{split}
use Rattle.subsetter_blend.specs.Writing.Taking.{Event}
use Rattle.subsetter_blend.specs.Writing.Written.{Fitted, fitted, fitted_piece, fitted_start, start_point, may_begin}
use Rattle.subsetter_blend.specs.Writing.Written.{width}

-- ---- an operator, with the bytes after it
pub data HasOperatorFault (setting : Setting) (operator : Operator) (rest : List ℕ) (r : Registers)
    : Error → Type 0 where
  -- CFF2 has no such operator, as return and endchar
  unknown : operator_kind operator ≡ None → HasOperatorFault setting operator rest r CFFError
  -- it doesn't take as many operands: a move, a line or a curve, stems, a mask
  wrong_draw : operator_kind operator ≡ Some Draws → accepts operator (length r.operands) ≡ false
      → HasOperatorFault setting operator rest r CFFError
  wrong_stems : operator_kind operator ≡ Some CountsStems → accepts operator (length r.operands) ≡ false
      → HasOperatorFault setting operator rest r CFFError
  wrong_mask : operator_kind operator ≡ Some Masks → accepts operator (length r.operands) ≡ false
      → HasOperatorFault setting operator rest r CFFError
  -- there are more than 65,535 stems
  many_stems : operator_kind operator ≡ Some CountsStems → 65535 < stems_after r
      → HasOperatorFault setting operator rest r CFFError
  many_masked : operator_kind operator ≡ Some Masks → r.mask_len ≡ 0 → 65535 < stems_after r
      → HasOperatorFault setting operator rest r CFFError
  -- a mask is cut, or a later one has operands
  cut_mask : operator_kind operator ≡ Some Masks → r.mask_len ≡ 0 → length rest < (stems_after r + 7) / 8
      → HasOperatorFault setting operator rest r CFFError
  cut_later_mask : operator_kind operator ≡ Some Masks → r.mask_len ≢ 0 → length rest < r.mask_len
      → HasOperatorFault setting operator rest r CFFError
  late_stems : operator_kind operator ≡ Some Masks → r.mask_len ≢ 0 → length r.operands ≢ 0
      → HasOperatorFault setting operator rest r CFFError
  -- the last operand names no subroutine: there is no operand, it isn't whole, or there is none of that number
  no_local : operator_kind operator ≡ Some CallsLocal
      → option_and_then (subroutine setting.library.local) (last_operand r.operands) ≡ None
      → HasOperatorFault setting operator rest r CFFError
  no_global : operator_kind operator ≡ Some CallsGlobal
      → option_and_then (subroutine setting.library.global) (last_operand r.operands) ≡ None
      → HasOperatorFault setting operator rest r CFFError
  -- blend: there are no such item variation data, the last operand is no number of results, there are fewer operands
  -- than it needs, or an operand after it is past 32,768 units
  blend_without_data : operator_kind operator ≡ Some Blends → setting.scalars r.data_index ≡ None
      → HasOperatorFault setting operator rest r CFFError
  blend_without_count : operator_kind operator ≡ Some Blends → last_natural r ≡ None
      → HasOperatorFault setting operator rest r CFFError
  few_blended : (scalars : List ℤ) (n : ℕ) → operator_kind operator ≡ Some Blends
      → setting.scalars r.data_index ≡ Some scalars → last_natural r ≡ Some n
      → length (but_last r.operands) < n * (length scalars + 1) → HasOperatorFault setting operator rest r CFFError
  far_blended : (scalars : List ℤ) (n : ℕ) (operands : List ℤ) → operator_kind operator ≡ Some Blends
      → setting.scalars r.data_index ≡ Some scalars → last_natural r ≡ Some n
      → blended scalars n (but_last r.operands) ≡ Some operands → are_within operands ≡ false
      → HasOperatorFault setting operator rest r OverflowError
  -- vsindex: it is a second one or after a blend, isn't alone, or names no item variation data
  late_data : operator_kind operator ≡ Some ChoosesData → r.settled ≡ true
      → HasOperatorFault setting operator rest r CFFError
  wrong_data : operator_kind operator ≡ Some ChoosesData → length r.operands ≢ 1
      → HasOperatorFault setting operator rest r CFFError
  unnamed_data : operator_kind operator ≡ Some ChoosesData → last_natural r ≡ None
      → HasOperatorFault setting operator rest r CFFError
  no_data : (n : ℕ) → operator_kind operator ≡ Some ChoosesData → last_natural r ≡ Some n → setting.scalars n ≡ None
      → HasOperatorFault setting operator rest r CFFError

-- ---- the token at the front of these bytes
pub data HasTokenFault (setting : Setting) (bytes : List ℕ) (r : Registers) : Error → Type 0 where
  -- it is cut
  cut_token : token_of bytes ≡ None → HasTokenFault setting bytes r CFFError
  -- a number, and 513 operands are there
  full_stack : (number : CharStringNumber) (rest : List ℕ) → token_of bytes ≡ Some (Operand number, rest)
      → 513 ≤ length r.operands
      → HasTokenFault setting bytes r CFFError
  in_operator : {e : Error} (operator : Operator) (rest : List ℕ) → token_of bytes ≡ Some (Operation operator, rest)
      → HasOperatorFault setting operator rest r e
      → HasTokenFault setting bytes r e

-- ---- what is written of an operator
-- a coordinate, an edge of a stem or the step to it has no 16 bits, in one of these pieces
pub data IsFar : List Event → Fitted → Type 0 where
  far_here : (e : Event) (es : List Event) (f : Fitted)
      → placed e.operator (length e.operands) 0 e.operands
      (record { at = start_point (is_hint e.operator.0) f.pen.at; numbers = width f.pen.advance })
      ≡ None
      → IsFar (e ∷ es) f
  far_after : (e : Event) (es : List Event) (f g : Fitted) → fitted_piece e f ≡ Ok g → IsFar es g → IsFar (e ∷ es) f

pub data HasEventFault (event : Event) (f : Fitted) : Error → Type 0 where
  -- a line or a curve before the first move
  no_move : may_begin f.pen.advance event.operator.0 ≡ false → HasEventFault event f CFFError
  far : may_begin f.pen.advance event.operator.0 ≡ true → IsFar (split (length (width f.pen.advance)) (opened event)) f
      → HasEventFault event f OverflowError

-- ---- the run, from a state, with the number of tokens that are left
pub data HasRunFault (setting : Setting) (depth : ℕ) : ℕ → Fitted → State → Error → Type 0 where
  -- an operand is left at the end
  left_operand : (tokens : ℕ) (f : Fitted) (state : State) → unended state.rests ≡ []
      → length state.registers.operands ≢ 0
      → HasRunFault setting depth tokens f state CFFError
  -- no token is left for the next one
  no_token : (f : Fitted) (state : State) (bytes : List ℕ) (callers : List (List ℕ))
      → unended state.rests ≡ bytes ∷ callers
      → HasRunFault setting depth zero f state CFFError
  in_token : {e : Error} (tokens : ℕ) (f : Fitted) (state : State) (bytes : List ℕ) (callers : List (List ℕ))
      → unended state.rests ≡ bytes ∷ callers
      → HasTokenFault setting bytes state.registers e → HasRunFault setting depth (suc tokens) f state e
  in_event : {e : Error} (tokens : ℕ) (f : Fitted) (state : State) (bytes : List ℕ)
      (callers : List (List ℕ)) (event : Event) (next : Registers) (lead : Continuation)
      → unended state.rests ≡ bytes ∷ callers
      → act_at setting bytes state.registers ≡ Does (Some event) next lead → HasEventFault event f e
      → HasRunFault setting depth (suc tokens) f state e
  -- it leads deeper than the limit, or to a fault
  too_deep : (tokens : ℕ) (f g : Fitted) (state : State) (bytes : List ℕ) (callers : List (List ℕ))
      (said : Option Event) (next : Registers) (lead : Continuation)
      → unended state.rests ≡ bytes ∷ callers
      → act_at setting bytes state.registers ≡ Does said next lead → taken_also fitted said f ≡ Ok g
      → depth < length (rests_after lead callers)
      → HasRunFault setting depth (suc tokens) f state CFFError
  later : {e : Error} (tokens : ℕ) (f g : Fitted) (state : State) (bytes : List ℕ)
      (callers : List (List ℕ)) (said : Option Event) (next : Registers) (lead : Continuation)
      → unended state.rests ≡ bytes ∷ callers
      → act_at setting bytes state.registers ≡ Does said next lead → taken_also fitted said f ≡ Ok g
      → length (rests_after lead callers) ≤ depth
      → HasRunFault setting depth tokens g (record { rests = rests_after lead callers; registers = next }) e
      → HasRunFault setting depth (suc tokens) f state e

-- of a glyph's charstring: setting tokens depth data advance charstring
abbrev pub HasCharstringFault : Setting → ℕ → ℕ → ℕ → ℤ → List ℕ → Error → Type 0
HasCharstringFault setting tokens depth data_index advance charstring e =
    HasRunFault setting depth tokens (fitted_start advance) (start data_index charstring) e
