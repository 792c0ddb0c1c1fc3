-- A run stops by two errors alone, and want of memory is neither.
use Rattle.std.proofs.Common.{◌≡◌, ℕ, zero, suc, ◌+◌, ◌/◌, Bool, true, false, cond, eqb, ltb, leb, List, [], ◌∷◌, length, Option, Some, None}
use Rattle.std.specs.Option.{option_and_then}
use Rattle.subsetter_base.specs.declared.error.Error.{Error}
use Rattle.subsetter_base.specs.declared.error.Error.TheVariants.{UnknownKind, MalformedFont, Unimplemented, SubsetError, OverflowError, CFFError, OutOfMemory}
use Rattle.subsetter_cffdata.specs.declared.dicts.operator.Operator.{Operator}
use Rattle.subsetter_type2.specs.declared.token.Effect.{Effect}
use Rattle.subsetter_type2.specs.declared.token.Effect.TheVariants.{CountsStems, Draws, CallsLocal, CallsGlobal, Returns, Ends, Masks}
use Rattle.subsetter_type2.specs.Token.{Token, Operand, Operation, token_of, effect_of}
use Rattle.subsetter_type2.specs.Runs.Machine.{Library, Registers, State, Event, Act, Does, Fails, Step, Goes, Faults, Outcome, Finishes, Stops, subroutine, last_operand, stems_after, take_mask, enter, operate, act, act_on, act_at, rests_after, move, unended, with_event, follow, ended_or, run, start, outcome}

-- a fault that charstrings have: the two errors
abbrev pub IsRunError : Error → Type 0
IsRunError CFFError = Unit {0}
IsRunError Unimplemented = Unit {0}
IsRunError UnknownKind = ⊥
IsRunError MalformedFont = ⊥
IsRunError SubsetError = ⊥
IsRunError OverflowError = ⊥
IsRunError OutOfMemory = ⊥

abbrev GoodAct : Act → Type 0
GoodAct (Does said next lead) = Unit {0}
GoodAct (Fails e) = IsRunError e

abbrev GoodStep : Step → Type 0
GoodStep (Goes said next) = Unit {0}
GoodStep (Faults e) = IsRunError e

abbrev GoodOutcome : Outcome → Type 0
GoodOutcome (Finishes t) = Unit {0}
GoodOutcome (Stops e) = IsRunError e

either : (b : Bool) (x y : Act) → GoodAct x → GoodAct y → GoodAct (cond b x y)
either true x y good bad = good
either false x y good bad = bad

enter_good : (o : Option (List ℕ)) (rest : List ℕ) (r : Registers) → GoodAct (enter o rest r)
enter_good None rest r = tt
enter_good (Some body) rest r = tt

take_good : (operator : Operator) (rest : List ℕ) (r : Registers) → GoodAct (take_mask operator rest r)
take_good operator rest r = either (leb r.mask_len (length rest)) _ (Fails CFFError) tt tt

operate_good : (library : Library) (operator : Operator) (o : Option Effect) (rest : List ℕ) (r : Registers) → GoodAct (operate library operator o rest r)
operate_good library operator None rest r = tt
operate_good library operator (Some CountsStems) rest r = either (leb (stems_after r) 65535) _ (Fails CFFError) tt tt
operate_good library operator (Some Draws) rest r = tt
operate_good library operator (Some CallsLocal) rest r = enter_good (option_and_then (subroutine library.local) (last_operand r.operands)) rest r
operate_good library operator (Some CallsGlobal) rest r = enter_good (option_and_then (subroutine library.global) (last_operand r.operands)) rest r
operate_good library operator (Some Returns) rest r = tt
operate_good library operator (Some Ends) rest r = either (ltb (length r.operands) 4) _ (Fails Unimplemented) tt tt
operate_good library operator (Some Masks) rest r =
    either (eqb r.mask_len 0) _ (take_mask operator rest r)
    (either (leb (stems_after r) 65535) (take_mask operator rest (record r { stems = stems_after r; mask_len = (stems_after r + 7) / 8 })) (Fails CFFError) (take_good operator rest (record r { stems = stems_after r; mask_len = (stems_after r + 7) / 8 })) tt)
    (take_good operator rest r)

act_good : (library : Library) (t : Token) (rest : List ℕ) (r : Registers) → GoodAct (act library t rest r)
act_good library (Operand number) rest r = either (ltb (length r.operands) 48) _ (Fails CFFError) tt tt
act_good library (Operation operator) rest r = operate_good library operator (effect_of operator) rest r

act_on_good : (library : Library) (o : Option (Token × List ℕ)) (r : Registers) → GoodAct (act_on library o r)
act_on_good library None r = tt
act_on_good library (Some t) r = act_good library t.0 t.1 r

act_at_good : (library : Library) (bytes : List ℕ) (r : Registers) → GoodAct (act_at library bytes r)
unfolding act_at
act_at_good library bytes r = act_on_good library (token_of bytes) r

either_step : (b : Bool) (x y : Step) → GoodStep x → GoodStep y → GoodStep (cond b x y)
either_step true x y good bad = good
either_step false x y good bad = bad

move_good : (depth : ℕ) (callers : List (List ℕ)) (a : Act) → GoodAct a → GoodStep (move depth callers a)
move_good depth callers (Does said next lead) good = either_step (leb (length (rests_after lead callers)) depth) (Goes said (record { rests = rests_after lead callers; registers = next })) (Faults CFFError) tt tt
move_good depth callers (Fails e) good = good

follow_good : (s : Step) (said : List Event) (go : List Event → State → Outcome) → GoodStep s → ((l : List Event) (t : State) → GoodOutcome (go l t)) → GoodOutcome (follow s said go)
follow_good (Goes event next) said go good on = on (with_event said event) next
follow_good (Faults e) said go good on = good

want_good : (rests : List (List ℕ)) (over : Outcome) (go : List ℕ → List (List ℕ) → Outcome) → GoodOutcome over → ((bytes : List ℕ) (callers : List (List ℕ)) → GoodOutcome (go bytes callers)) → GoodOutcome (ended_or rests over go)
want_good [] over go good on = good
want_good (bytes ∷ callers) over go good on = on bytes callers

run_good : (library : Library) (depth tokens : ℕ) (said : List Event) (s : State) → GoodOutcome (run library depth tokens said s)
unfolding run
run_good library depth zero said s = want_good (unended s.rests) (Finishes (record { events = said; left = s.registers.operands })) (λ bytes callers. Stops CFFError) tt (λ bytes callers. tt)
run_good library depth (suc tokens) said s =
    want_good (unended s.rests) (Finishes (record { events = said; left = s.registers.operands })) (λ bytes callers. follow (move depth callers (act_at library bytes s.registers)) said (run library depth tokens)) tt (λ bytes callers.
    follow_good (move depth callers (act_at library bytes s.registers)) said (run library depth tokens) (move_good depth callers (act_at library bytes s.registers) (act_at_good library bytes s.registers)) (λ l t. run_good library depth tokens l t))

pub outcome_good : (library : Library) (tokens depth : ℕ) (charstring : List ℕ) → GoodOutcome (outcome library tokens depth charstring)
unfolding outcome
outcome_good library tokens depth charstring = run_good library depth tokens [] (start charstring)

stopped_good : (o : Outcome) (e : Error) → o ≡ Stops e → GoodOutcome o → IsRunError e
stopped_good o e is good = rw is at good

-- a run that stops, stops by one of the two
pub run_error : (library : Library) (tokens depth : ℕ) (charstring : List ℕ) (e : Error) → outcome library tokens depth charstring ≡ Stops e → IsRunError e
run_error library tokens depth charstring e is = stopped_good (outcome library tokens depth charstring) e is (outcome_good library tokens depth charstring)
