-- A glyph's charstring can't be written exactly where it has such a fault.
use Rattle.std.proofs.Common.{◌≡◌, ℕ, zero, suc, ◌+◌, ◌*◌, ◌/◌, ◌<◌, ℤ, Bool, true, false, List, [], ◌∷◌, length, Option, Some, None, refl, ap, ◌∙◌, sym, subst, arith, inl, inr, ◌⊎◌}
use Rattle.std.specs.Prelude.{Result, Ok, Err, nat_le, nat_lt, ◌==◌, if◌then◌else◌}
use Rattle.std.specs.Option.{option_and_then}
use Rattle.std.proofs.lemmas.Option.{none-some}
use Rattle.std.proofs.lemmas.Bool.{leb-true, leb-false, ltb-false, eqb-true, eqb-false, le-ltb, lt-leb, eq-eqb, ne_eqb}
use Rattle.subsetter_base.specs.declared.error.Error.{Error}
use Rattle.subsetter_base.specs.declared.error.Error.TheVariants.{CFFError, OverflowError}
use Rattle.subsetter_cffdata.specs.declared.numerals.charstring_number.CharStringNumber.{CharStringNumber}
use Rattle.subsetter_cffdata.specs.declared.dicts.operator.Operator.{Operator}
use Rattle.subsetter_type2.specs.Runs.Machine.{Continuation, On, rests_after, unended}
use Rattle.subsetter_type2.specs.Token.{Token, Operand, Operation, token_of}
use Rattle.subsetter_blend.specs.declared.runs.kind.Kind.{Kind}
use Rattle.subsetter_blend.specs.declared.runs.kind.Kind.TheVariants.{ChoosesData, Blends, CountsStems, Draws, CallsLocal, CallsGlobal, Masks}
use Rattle.subsetter_blend.specs.Runs.Blend.{blended}
use Rattle.subsetter_blend.specs.Writing.Flex.{opened}
use Rattle.subsetter_blend.specs.Hint.{is_hint}
use Rattle.subsetter_blend.specs.Runs.Kind.{operator_kind, accepts}
use Rattle.subsetter_blend.specs.Runs.Machine.{Setting, Registers, State, Act, Does, Fails, act_at, act_on, blended_by, but_last, chosen, count_stems, done, done_with, emit, ended, enter, follow, if_there, last_natural, last_operand, operate, push, run, run_all, stacked, start, stems_after, subroutine, take_mask, taken_also}
use Rattle.subsetter_blend.specs.Runs.Number.{are_within}
use Rattle.subsetter_blend.specs.Writing.Placed.{Placed, placed}
use Rattle.subsetter_blend.specs.Resolved.{resolved, all_finished}
use Rattle.subsetter_blend.specs.Writing.Split.{split}
use Rattle.subsetter_blend.specs.Writing.Taking.{Event, all_taken, and_then}
use Rattle.subsetter_blend.specs.Writing.Written.{Fitted, fitted, fitted_piece, fitted_start, start_point, inked, may_begin, width, with_ink}
use Rattle.subsetter_blend.proofs.RunsLaws.Runs.{run_over, run_out, run_more, run_fault, run_deep, run_on, ended_some}
use Rattle.subsetter_cff_at.specs.RunFault.{HasOperatorFault, HasTokenFault, HasEventFault, HasRunFault, HasCharstringFault, IsFar, unknown, wrong_draw, wrong_stems, wrong_mask, many_stems, many_masked, cut_mask, cut_later_mask, late_stems, no_local, no_global, blend_without_data, blend_without_count, few_blended, far_blended, late_data, wrong_data, unnamed_data, no_data, cut_token, full_stack, in_operator, far_here, far_after, no_move, far, left_operand, no_token, in_token, in_event, too_deep, later}

-- ---- acts
fails_same : (d e : Error) → Fails d ≡ Fails e → d ≡ e
fails_same d e h = cc

no_failure : (said : Option Event) (next : Registers) (lead : Continuation) (e : Error) → Does said next lead ≡ Fails e → ⊥
no_failure said next lead e h = absurd cc

if_fails : (b : Bool) (d e : Error) (act : Act) → (if b then act else Fails d) ≡ Fails e → ((b ≡ false) × (d ≡ e)) ⊎ ((b ≡ true) × (act ≡ Fails e))
if_fails true d e act h = inr (refl, h)
if_fails false d e act h = inl (refl, fails_same d e h)

same_if : (b : Bool) (act : Act) → (if b then act else act) ≡ act
same_if true act = refl
same_if false act = refl

few_by : (b : Bool) (need have : ℕ) (operands : List ℤ) → nat_le need have ≡ b → ◌≡◌ {A = Option (List ℤ)} (if b then Some operands else None) None → have < need
few_by true need have operands is h = absurd (none-some _ (sym h))
few_by false need have operands is h = leb-false need have is

few_is : (scalars : List ℤ) (n : ℕ) (operands : List ℤ) → blended scalars n operands ≡ None → length operands < n * (length scalars + 1)
unfolding blended
few_is scalars n operands h = few_by _ (n * (length scalars + 1)) (length operands) _ refl h

is_few : (scalars : List ℤ) (n : ℕ) (operands : List ℤ) → length operands < n * (length scalars + 1) → blended scalars n operands ≡ None
unfolding blended
is_few scalars n operands h = rw (lt-leb (n * (length scalars + 1)) (length operands) h) refl

uncounted : (scalars : Option (List ℤ)) (rest : List ℕ) (r : Registers) → stacked (blended_by scalars None (but_last r.operands)) rest r ≡ Fails CFFError
uncounted None rest r = refl
uncounted (Some scalars) rest r = refl

unchosen : (late one : Bool) → ◌≡◌ {A = Act} (if late then Fails CFFError else if one then Fails CFFError else Fails CFFError) (Fails CFFError)
unchosen true one = refl
unchosen false one = same_if one (Fails CFFError)

module _ (setting : Setting) (operator : Operator) (rest : List ℕ) (r : Registers) where
  abbrev F : Error → Type 0
  F = HasOperatorFault setting operator rest r

  -- ---- a failing operator has a fault
  emit_refused : (m bytes : List ℕ) (s : Registers) (e : Error) → emit operator m bytes s ≡ Fails e → (accepts operator (length s.operands) ≡ false) × (CFFError ≡ e)
  emit_refused m bytes s e h =
      elim (if_fails (accepts operator (length s.operands)) CFFError e _ h) [
        | inl a ↦ a
        | inr a ↦ absurd (no_failure _ _ _ e a.1)
      ]

  draw_refused : (e : Error) → operator_kind operator ≡ Some Draws → emit operator [] rest r ≡ Fails e → F e
  draw_refused e is h = let a = emit_refused [] rest r e h in subst F a.1 (wrong_draw is a.0)

  stems_refused : (e : Error) → operator_kind operator ≡ Some CountsStems → count_stems operator rest r ≡ Fails e → F e
  stems_refused e is h =
      elim (if_fails (nat_le (stems_after r) 65535) CFFError e _ h) [
        | inl a ↦ subst F a.1 (many_stems is (leb-false (stems_after r) 65535 a.0))
        | inr a ↦ (let b = emit_refused [] rest (record r { stems = stems_after r }) e a.1 in subst F b.1 (wrong_stems is b.0))
      ]

  mask_taken : (s : Registers) (e : Error) → take_mask operator rest s ≡ Fails e → ((length rest < s.mask_len) × (CFFError ≡ e)) ⊎ ((accepts operator (length s.operands) ≡ false) × (CFFError ≡ e))
  mask_taken s e h =
      elim (if_fails (nat_le s.mask_len (length rest)) CFFError e _ h) [
        | inl a ↦ inl (leb-false s.mask_len (length rest) a.0, a.1)
        | inr a ↦ inr (emit_refused _ _ s e a.1)
      ]

  first_mask_refused : (e : Error) → operator_kind operator ≡ Some Masks → r.mask_len ≡ 0
      → (if nat_le (stems_after r) 65535 then take_mask operator rest (record r { stems = stems_after r; mask_len = (stems_after r + 7) / 8 }) else Fails CFFError) ≡ Fails e → F e
  first_mask_refused e is first h =
      elim (if_fails (nat_le (stems_after r) 65535) CFFError e _ h) [
        | inl a ↦ subst F a.1 (many_masked is first (leb-false (stems_after r) 65535 a.0))
        | inr a ↦ elim (mask_taken (record r { stems = stems_after r; mask_len = (stems_after r + 7) / 8 }) e a.1) [
          | inl b ↦ subst F b.1 (cut_mask is first b.0)
          | inr b ↦ subst F b.1 (wrong_mask is b.0)
        ]
      ]

  later_mask_refused : (e : Error) → operator_kind operator ≡ Some Masks → (r.mask_len ≡ 0 → ⊥) → (if length r.operands == 0 then take_mask operator rest r else Fails CFFError) ≡ Fails e → F e
  later_mask_refused e is second h =
      elim (if_fails (length r.operands == 0) CFFError e _ h) [
        | inl a ↦ subst F a.1 (late_stems is second (eqb-false (length r.operands) 0 a.0))
        | inr a ↦ elim (mask_taken r e a.1) [
          | inl b ↦ subst F b.1 (cut_later_mask is second b.0)
          | inr b ↦ subst F b.1 (wrong_mask is b.0)
        ]
      ]

  mask_by : (b : Bool) (e : Error) → operator_kind operator ≡ Some Masks → (r.mask_len == 0) ≡ b
      → (if b then (if nat_le (stems_after r) 65535 then take_mask operator rest (record r { stems = stems_after r; mask_len = (stems_after r + 7) / 8 }) else Fails CFFError)
      else if length r.operands == 0 then take_mask operator rest r else Fails CFFError) ≡ Fails e → F e
  mask_by true e is first h = first_mask_refused e is (eqb-true r.mask_len 0 first) h
  mask_by false e is second h = later_mask_refused e is (eqb-false r.mask_len 0 second) h

  not_entered : (body : Option (List ℕ)) (e : Error) → enter body rest r ≡ Fails e → (body ≡ None) × (CFFError ≡ e)
  not_entered None e h = (refl, fails_same CFFError e h)
  not_entered (Some body) e h = absurd (no_failure _ _ _ e h)

  stacked_refused : (scalars : List ℤ) (n : ℕ) (o : Option (List ℤ)) (e : Error) → operator_kind operator ≡ Some Blends → setting.scalars r.data_index ≡ Some scalars → last_natural r ≡ Some n
      → blended scalars n (but_last r.operands) ≡ o → stacked o rest r ≡ Fails e → F e
  stacked_refused scalars n None e is there count b h = subst F (fails_same CFFError e h) (few_blended scalars n is there count (few_is scalars n (but_last r.operands) b))
  stacked_refused scalars n (Some operands) e is there count b h =
      elim (if_fails (are_within operands) OverflowError e _ h) [
        | inl a ↦ subst F a.1 (far_blended scalars n operands is there count b a.0)
        | inr a ↦ absurd (no_failure _ _ _ e a.1)
      ]

  blend_by : (s : Option (List ℤ)) (n : Option ℕ) (e : Error) → operator_kind operator ≡ Some Blends → setting.scalars r.data_index ≡ s → last_natural r ≡ n → stacked (blended_by s n (but_last r.operands)) rest r ≡ Fails e → F e
  blend_by None n e is there count h = subst F (fails_same CFFError e h) (blend_without_data is there)
  blend_by (Some scalars) None e is there count h = subst F (fails_same CFFError e h) (blend_without_count is count)
  blend_by (Some scalars) (Some n) e is there count h = stacked_refused scalars n (blended scalars n (but_last r.operands)) e is there count refl h

  data_refused : (n : ℕ) (s : Option (List ℤ)) (e : Error) → operator_kind operator ≡ Some ChoosesData → last_natural r ≡ Some n → setting.scalars n ≡ s
      → if_there s (Does None (record r { operands = []; data_index = n; settled = true }) (On rest)) ≡ Fails e → F e
  data_refused n None e is number there h = subst F (fails_same CFFError e h) (no_data n is number there)
  data_refused n (Some scalars) e is number there h = absurd (no_failure _ _ _ e h)

  chosen_refused : (n : Option ℕ) (e : Error) → operator_kind operator ≡ Some ChoosesData → last_natural r ≡ n → chosen n setting.scalars rest r ≡ Fails e → F e
  chosen_refused None e is number h = subst F (fails_same CFFError e h) (unnamed_data is number)
  chosen_refused (Some n) e is number h = data_refused n (setting.scalars n) e is number refl h

  choose_by : (late : Bool) (e : Error) → operator_kind operator ≡ Some ChoosesData → r.settled ≡ late
      → (if late then Fails CFFError else if length r.operands == 1 then chosen (last_natural r) setting.scalars rest r else Fails CFFError) ≡ Fails e → F e
  choose_by true e is late h = subst F (fails_same CFFError e h) (late_data is late)
  choose_by false e is late h =
      elim (if_fails (length r.operands == 1) CFFError e _ h) [
        | inl a ↦ subst F a.1 (wrong_data is (eqb-false (length r.operands) 1 a.0))
        | inr a ↦ chosen_refused (last_natural r) e is refl a.1
      ]

  operator_refused : (kind : Option Kind) (e : Error) → operator_kind operator ≡ kind → operate setting operator kind rest r ≡ Fails e → F e
  operator_refused None e is h = subst F (fails_same CFFError e h) (unknown is)
  operator_refused (Some ChoosesData) e is h = choose_by r.settled e is refl h
  operator_refused (Some Blends) e is h = blend_by (setting.scalars r.data_index) (last_natural r) e is refl refl h
  operator_refused (Some CountsStems) e is h = stems_refused e is h
  operator_refused (Some Draws) e is h = draw_refused e is h
  operator_refused (Some CallsLocal) e is h = (let a = not_entered (option_and_then (subroutine setting.library.local) (last_operand r.operands)) e h in subst F a.1 (no_local is a.0))
  operator_refused (Some CallsGlobal) e is h = (let a = not_entered (option_and_then (subroutine setting.library.global) (last_operand r.operands)) e h in subst F a.1 (no_global is a.0))
  operator_refused (Some Masks) e is h = mask_by (r.mask_len == 0) e is refl h

  -- ---- an operator that has a fault fails
  masks_alike : (a b c d f : Bool) (act : Act) → (if a then (if b then (if c then act else act) else act) else if d then (if f then act else act) else act) ≡ act
  masks_alike true true c d f act = same_if c act
  masks_alike true false c d f act = refl
  masks_alike false b c true f act = same_if f act
  masks_alike false b c false f act = refl

  abbrev Does_it : Error → Type 0
  Does_it e = operate setting operator (operator_kind operator) rest r ≡ Fails e

  operator_stands : (e : Error) → F e → Does_it e
  operator_stands _ (unknown is) = rw is refl
  operator_stands _ (wrong_draw is wrong) = rw (is, wrong) refl
  operator_stands _ (wrong_stems is wrong) = rw (is, wrong) (same_if (nat_le (stems_after r) 65535) (Fails CFFError))
  operator_stands _ (wrong_mask is wrong) =
      rw (is, wrong) (masks_alike (r.mask_len == 0) (nat_le (stems_after r) 65535) (nat_le ((stems_after r + 7) / 8) (length rest)) (length r.operands == 0) (nat_le r.mask_len (length rest)) (Fails CFFError))
  operator_stands _ (many_stems is many) = rw (is, lt-leb (stems_after r) 65535 many) refl
  operator_stands _ (many_masked is first many) = rw (is, eq-eqb r.mask_len 0 first, lt-leb (stems_after r) 65535 many) refl
  operator_stands _ (cut_mask is first cut) = rw (is, eq-eqb r.mask_len 0 first, lt-leb ((stems_after r + 7) / 8) (length rest) cut) (same_if (nat_le (stems_after r) 65535) (Fails CFFError))
  operator_stands _ (cut_later_mask is second cut) = rw (is, ne_eqb r.mask_len 0 second, lt-leb r.mask_len (length rest) cut) (same_if (length r.operands == 0) (Fails CFFError))
  operator_stands _ (late_stems is second some) = rw (is, ne_eqb r.mask_len 0 second, ne_eqb (length r.operands) 0 some) refl
  operator_stands _ (no_local is none) = rw (is, none) refl
  operator_stands _ (no_global is none) = rw (is, none) refl
  operator_stands _ (blend_without_data is none) = rw (is, none) refl
  operator_stands _ (blend_without_count is none) = rw (is, none) (uncounted (setting.scalars r.data_index) rest r)
  operator_stands _ (few_blended scalars n is there count few) = rw (is, there, count, is_few scalars n (but_last r.operands) few) refl
  operator_stands _ (far_blended scalars n operands is there count b past) = rw (is, there, count, b, past) refl
  operator_stands _ (late_data is late) = rw (is, late) refl
  operator_stands _ (wrong_data is not_one) = rw (is, ne_eqb (length r.operands) 1 not_one) (same_if r.settled (Fails CFFError))
  operator_stands _ (unnamed_data is none) = rw (is, none) (unchosen r.settled (length r.operands == 1))
  operator_stands _ (no_data n is number none) = rw (is, number, none) (unchosen r.settled (length r.operands == 1))

-- ---- tokens
module _ (setting : Setting) (bytes : List ℕ) (r : Registers) where
  abbrev T : Error → Type 0
  T = HasTokenFault setting bytes r

  number_refused : (number : CharStringNumber) (rest : List ℕ) (e : Error) → token_of bytes ≡ Some (Operand number, rest) → push number rest r ≡ Fails e → T e
  number_refused number rest e is h =
      elim (if_fails (nat_lt (length r.operands) 513) CFFError e _ h) [
        | inl a ↦ subst T a.1 (full_stack number rest is (ltb-false (length r.operands) 513 a.0))
        | inr a ↦ absurd (no_failure _ _ _ e a.1)
      ]

  token_by : (t : Option (Token × List ℕ)) (e : Error) → token_of bytes ≡ t → act_on setting t r ≡ Fails e → T e
  token_by None e is h = subst T (fails_same CFFError e h) (cut_token is)
  token_by (Some (Operand number, rest)) e is h = number_refused number rest e is h
  token_by (Some (Operation operator, rest)) e is h = in_operator operator rest is (operator_refused setting operator rest r (operator_kind operator) e refl h)

  token_refused : (e : Error) → act_at setting bytes r ≡ Fails e → T e
  unfolding act_at
  token_refused e h = token_by (token_of bytes) e refl h

  token_stands : (e : Error) → T e → act_at setting bytes r ≡ Fails e
  unfolding act_at
  token_stands _ (cut_token is) = ap (λ t. act_on setting t r) is
  token_stands _ (full_stack number rest is full) = ap (λ t. act_on setting t r) is ∙ rw (le-ltb (length r.operands) 513 full) refl
  token_stands e (in_operator operator rest is f) = ap (λ t. act_on setting t r) is ∙ operator_stands setting operator rest r e f

-- ---- what is written
ink_refused : (o : Option Placed) (event : Event) (f : Fitted) (e : Error) → with_ink f.bytes (inked event f.pen o) ≡ Err e → (o ≡ None) × (OverflowError ≡ e)
ink_refused None event f e h = (refl, cc)
ink_refused (Some p) event f e h = absurd cc

and_err : (a : Result Fitted Error) (go : Fitted → Result Fitted Error) (e : Error) → and_then a go ≡ Err e → (a ≡ Err e) ⊎ ((g : Fitted) × ((a ≡ Ok g) × (go g ≡ Err e)))
and_err (Ok g) go e h = inr (g, (refl, h))
and_err (Err d) go e h = inl h

pieces_refused : (es : List Event) (f : Fitted) (e : Error) → all_taken fitted_piece es f ≡ Err e → IsFar es f × (OverflowError ≡ e)
pieces_refused [] f e h = absurd cc
pieces_refused (event ∷ es) f e h =
    elim (and_err (fitted_piece event f) (all_taken fitted_piece es) e h) [
      | inl a ↦ (let b = ink_refused (placed event.operator (length event.operands) 0 event.operands (record { at = start_point (is_hint event.operator.0) f.pen.at; numbers = width f.pen.advance })) event f e a in
          (far_here event es f b.0, b.1))
      | inr a ↦ (let b = pieces_refused es a.0 e a.1.1 in (far_after event es f a.0 a.1.0 b.0, b.1))
    ]

far_stands : (es : List Event) (f : Fitted) → IsFar es f → all_taken fitted_piece es f ≡ Err OverflowError
far_stands _ _ (far_here event es f none) = ap (λ o. and_then (with_ink f.bytes (inked event f.pen o)) (all_taken fitted_piece es)) none
far_stands _ _ (far_after event es f g is more) = ap (λ a. and_then a (all_taken fitted_piece es)) is ∙ far_stands es g more

event_by : (b : Bool) (event : Event) (f : Fitted) (e : Error) → may_begin f.pen.advance event.operator.0 ≡ b
    → (if b then all_taken fitted_piece (split (length (width f.pen.advance)) (opened event)) f else Err CFFError) ≡ Err e → HasEventFault event f e
event_by true event f e is h = (let a = pieces_refused (split (length (width f.pen.advance)) (opened event)) f e h in subst (HasEventFault event f) a.1 (far is a.0))
event_by false event f e is h = (let same : CFFError ≡ e = cc in subst (HasEventFault event f) same (no_move is))

event_refused : (event : Event) (f : Fitted) (e : Error) → fitted event f ≡ Err e → HasEventFault event f e
event_refused event f e h = event_by (may_begin f.pen.advance event.operator.0) event f e refl h

event_stands : (event : Event) (f : Fitted) (e : Error) → HasEventFault event f e → fitted event f ≡ Err e
event_stands event f _ (no_move is) = rw is refl
event_stands event f _ (far is h) = rw is (far_stands (split (length (width f.pen.advance)) (opened event)) f h)

-- ---- the run
ended_by : (f : Fitted) (operands : List ℤ) (e : Error) → ended f operands ≡ Err e → (length operands ≡ 0 → ⊥) × (CFFError ≡ e)
ended_by f [] e h = absurd cc
ended_by f (z ∷ zs) e h = ((λ none. absurd (let n = length zs in omega arith)), cc)

module _ (setting : Setting) (depth : ℕ) where
  abbrev R : ℕ → Fitted → State → Error → Type 0
  R = HasRunFault setting depth

  -- a charstring that is over
  over_refused : (tokens : ℕ) (f : Fitted) (state : State) (e : Error) → unended state.rests ≡ [] → run fitted setting depth tokens f state ≡ Err e → R tokens f state e
  over_refused tokens f state e is h =
      let a = ended_by f state.registers.operands e (sym (run_over fitted setting depth tokens f state is) ∙ h) in
      subst (R tokens f state) a.1 (left_operand tokens f state is a.0)

  module _ (tokens : ℕ) (again : (f : Fitted) (state : State) (e : Error) → run fitted setting depth tokens f state ≡ Err e → R tokens f state e)
      (f : Fitted) (state : State) (bytes : List ℕ) (callers : List (List ℕ)) (is : unended state.rests ≡ bytes ∷ callers) (e : Error) where
    -- a token leads on
    led_by : (deep : Bool) (g : Fitted) (said : Option Event) (next : Registers) (lead : Continuation) → act_at setting bytes state.registers ≡ Does said next lead → taken_also fitted said f ≡ Ok g
        → nat_le (length (rests_after lead callers)) depth ≡ deep
        → (if deep then run fitted setting depth tokens g (record { rests = rests_after lead callers; registers = next }) else Err CFFError) ≡ Err e → R (suc tokens) f state e
    led_by true g said next lead acts taken fits h =
        later tokens f g state bytes callers said next lead is acts taken (leb-true (length (rests_after lead callers)) depth fits) (again g (record { rests = rests_after lead callers; registers = next }) e h)
    led_by false g said next lead acts taken fits h =
        (let same : CFFError ≡ e = cc in
        subst (R (suc tokens) f state) same (too_deep tokens f g state bytes callers said next lead is acts taken (leb-false (length (rests_after lead callers)) depth fits)))

    event_led : (a : Result Fitted Error) (event : Event) (next : Registers) (lead : Continuation) → act_at setting bytes state.registers ≡ Does (Some event) next lead → fitted event f ≡ a
        → follow depth callers (done_with next lead a) (run fitted setting depth tokens) ≡ Err e → R (suc tokens) f state e
    event_led (Ok g) event next lead acts taken h = led_by (nat_le (length (rests_after lead callers)) depth) g (Some event) next lead acts taken refl h
    event_led (Err d) event next lead acts taken h =
        (let same : d ≡ e = cc in
        subst (R (suc tokens) f state) same (in_event tokens f state bytes callers event next lead is acts (event_refused event f d taken)))

    act_led : (act : Act) → act_at setting bytes state.registers ≡ act → follow depth callers (done fitted act f) (run fitted setting depth tokens) ≡ Err e → R (suc tokens) f state e
    act_led (Fails d) acts h =
        (let same : d ≡ e = cc in
        subst (R (suc tokens) f state) same (in_token tokens f state bytes callers is (token_refused setting bytes state.registers d acts)))
    act_led (Does None next lead) acts h = led_by (nat_le (length (rests_after lead callers)) depth) f None next lead acts refl refl h
    act_led (Does (Some event) next lead) acts h = event_led (fitted event f) event next lead acts refl h

  -- a run with a token at least, or without one
  run_by : (rests : List (List ℕ)) (tokens : ℕ) (again : (f : Fitted) (state : State) (e : Error) → run fitted setting depth tokens f state ≡ Err e → R tokens f state e)
      (f : Fitted) (state : State) (e : Error) → unended state.rests ≡ rests → run fitted setting depth (suc tokens) f state ≡ Err e → R (suc tokens) f state e
  run_by [] tokens again f state e is h = over_refused (suc tokens) f state e is h
  run_by (bytes ∷ callers) tokens again f state e is h =
      act_led tokens again f state bytes callers is e (act_at setting bytes state.registers) refl (sym (run_more fitted setting depth tokens f state bytes callers is) ∙ h)

  last_by : (rests : List (List ℕ)) (f : Fitted) (state : State) (e : Error) → unended state.rests ≡ rests → run fitted setting depth zero f state ≡ Err e → R zero f state e
  last_by [] f state e is h = over_refused zero f state e is h
  last_by (bytes ∷ callers) f state e is h =
      (let both : Err CFFError ≡ Err e = sym (run_out fitted setting depth f state bytes callers is) ∙ h in
      let same : CFFError ≡ e = cc in
      subst (R zero f state) same (no_token f state bytes callers is))

  run_refused : (tokens : ℕ) (f : Fitted) (state : State) (e : Error) → run fitted setting depth tokens f state ≡ Err e → R tokens f state e
  run_refused zero f state e h = last_by (unended state.rests) f state e refl h
  run_refused (suc tokens) f state e h = run_by (unended state.rests) tokens (run_refused tokens) f state e refl h

  run_stands : (tokens : ℕ) (f : Fitted) (state : State) (e : Error) → R tokens f state e → run fitted setting depth tokens f state ≡ Err e
  run_stands _ _ _ _ (left_operand tokens f state is some) = run_over fitted setting depth tokens f state is ∙ ended_some f state.registers.operands some
  run_stands _ _ _ _ (no_token f state bytes callers is) = run_out fitted setting depth f state bytes callers is
  run_stands _ _ _ e (in_token tokens f state bytes callers is h) =
      run_fault fitted setting depth (suc tokens) tokens f state bytes callers e refl is (ap (λ a. done fitted a f) (token_stands setting bytes state.registers e h))
  run_stands _ _ _ e (in_event tokens f state bytes callers event next lead is acts h) =
      run_fault fitted setting depth (suc tokens) tokens f state bytes callers e refl is (ap (λ a. done fitted a f) acts ∙ ap (done_with next lead) (event_stands event f e h))
  run_stands _ _ _ _ (too_deep tokens f g state bytes callers said next lead is acts taken deep) =
      run_deep fitted setting depth (suc tokens) tokens f state bytes callers (record { registers = next; taken = g; lead = lead }) refl is (ap (λ a. done fitted a f) acts ∙ ap (done_with next lead) taken) deep
  run_stands _ _ _ e (later tokens f g state bytes callers said next lead is acts taken fits h) =
      run_on fitted setting depth (suc tokens) tokens f state bytes callers (record { registers = next; taken = g; lead = lead }) refl is (ap (λ a. done fitted a f) acts ∙ ap (done_with next lead) taken) fits
      ∙ run_stands tokens g (record { rests = rests_after lead callers; registers = next }) e h

-- ---- of a glyph
unfinished : (a : Result Fitted Error) (e : Error) → all_finished a ≡ Err e → a ≡ Err e
unfinished (Ok f) e h = absurd cc
unfinished (Err d) e h = (let same : d ≡ e = cc in ap (λ (x : Error). Err x) same)

pub charstring_refused : (setting : Setting) (tokens depth data_index : ℕ) (advance : ℤ) (charstring : List ℕ) (e : Error)
    → resolved setting tokens depth data_index advance charstring ≡ Err e → HasCharstringFault setting tokens depth data_index advance charstring e
unfolding resolved run_all
charstring_refused setting tokens depth data_index advance charstring e h =
    run_refused setting depth tokens (fitted_start advance) (start data_index charstring) e (unfinished _ e h)

pub charstring_stands : (setting : Setting) (tokens depth data_index : ℕ) (advance : ℤ) (charstring : List ℕ) (e : Error)
    → HasCharstringFault setting tokens depth data_index advance charstring e → resolved setting tokens depth data_index advance charstring ≡ Err e
unfolding resolved run_all
charstring_stands setting tokens depth data_index advance charstring e f =
    ap all_finished (run_stands setting depth tokens (fitted_start advance) (start data_index charstring) e f)
