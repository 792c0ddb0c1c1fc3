-- The bytes of a trace have that trace, with no subroutines, in no more tokens.
use Rattle.std.proofs.Common.{◌≡◌, ℕ, zero, suc, ◌+◌, ◌-◌, ◌<◌, ◌≤◌, List, [], ◌∷◌, ◌++◌, length, Option, Some, None, Ok, Bool, true, false, refl, sym, ap, ◌∙◌, subst, arith, append_assoc, append-nil}
use Rattle.std.proofs.lemmas.Bool.{le-leb}
use Rattle.std.specs.Prelude.{nat_le, if◌then◌else◌}
use Rattle.subsetter_cffdata.specs.declared.numerals.charstring_number.CharStringNumber.{CharStringNumber}
use Rattle.subsetter_base.specs.declared.error.Error.TheVariants.{CFFError}
use Rattle.subsetter_cffdata.specs.Views.{operator_of}
use Rattle.subsetter_type2.specs.Token.{token_of}
use Rattle.subsetter_type2.specs.Flat.{flat_operands, flat_event, flat_events, flat, bytes_of, flat_form}
use Rattle.subsetter_type2.specs.Runs.Machine.{Library, Registers, State, Event, Trace, Act, Does, Fails, Goes, Faults, Continuation, On, Into, Back, Over, Outcome, Finishes, Stops, unended, follow, with_event, act_at, move, rests_after, run, outcome, start}
use Rattle.subsetter_type2.proofs.RunsLaws.Runs.{run_more, run_over, run_out}
use Rattle.subsetter_type2.proofs.RunsLaws.RecursionLemmas.{unended_front}
use Rattle.subsetter_type2.proofs.Replay.{one, operands_run}
use Rattle.subsetter_type2.specs.Runs.OutputView.{AllFit}
use Rattle.subsetter_type2.proofs.RunsLaws.Acts.{Sound, Silent, Loud, Class, class_at, lead_with}

abbrev pub emptied : Registers → Registers
emptied r = record { operands = []; stems = r.stems; mask_len = r.mask_len }

-- the events and the operands that are to come, as bytes, run from emptied registers
pub record Plays (r : Registers) (n : ℕ) (events : List Event) (left : List CharStringNumber) : Type 0 where
  pub by : (library : Library) (depth m : ℕ) (said : List Event) → 1 ≤ depth → n + length r.operands ≤ m
      → run library depth m said (one (flat_events events ++ flat_operands left) (emptied r)) ≡ Finishes (record { events = said ++ events; left = left })

pub record Ahead (said : List Event) (r : Registers) (n : ℕ) (u : Trace) : Type 0 where
  pub events : List Event
  pub said_is : u.events ≡ said ++ events
  pub plays : Plays r n events u.left

-- nothing left to run
plays_over : (r : Registers) (n : ℕ) → Sound r → Plays r n [] r.operands
plays_over r n s = record {
  by = λ library depth m said d b.
      let k : length r.operands + (m - length r.operands) ≡ m = omega arith in
      let bytes : flat_operands r.operands ≡ flat_operands r.operands ++ [] = sym (append-nil (flat_operands r.operands)) in
      ap (λ x. run library depth m said (one x (emptied r))) bytes
      ∙ ap (λ x. run library depth x said (one (flat_operands r.operands ++ []) (emptied r))) (sym k)
      ∙ operands_run library depth (m - length r.operands) said r.operands [] (emptied r) d s.fit (omega (arith, s.few))
      ∙ run_over library depth (m - length r.operands) said (one [] r) refl
      ∙ ap (λ x. Finishes (record { events = x; left = r.operands })) (sym (append-nil said));
}

ahead_over : (said : List Event) (r : Registers) (n : ℕ) (u : Trace) → Sound r → Finishes (record { events = said; left = r.operands }) ≡ Finishes u → Ahead said r n u
ahead_over said r n u s e =
    let p : ◌≡◌ {A = Trace} (record { events = said; left = r.operands }) u = cc in
    subst (Ahead said r n) p (record { events = []; said_is = sym (append-nil said); plays = plays_over r n s })

-- an act has bytes that it reads
some_act : (library : Library) (bytes : List ℕ) (r : Registers) (event : Option Event) (r' : Registers) (lead : Continuation) → act_at library bytes r ≡ Does event r' lead → 0 < length bytes
unfolding act_at token_of
some_act library [] r event r' lead e = absurd (cc)
some_act library (b ∷ bytes) r event r' lead e = omega arith

-- the operands and the operator of an event
event_run : (library : Library) (depth m : ℕ) (said : List Event) (r r' : Registers) (e : Event) (lead : Continuation) (x : List ℕ) → 1 ≤ depth → Sound r → Loud r e r' lead
    → run library depth (length r.operands + suc m) said (one (flat_event e ++ x) (emptied r)) ≡ follow (move depth [] (Does (Some e) r' (lead_with lead x))) said (run library depth m)
event_run library depth m said r r' e lead x d s l =
    let bytes : flat_event e ++ x ≡ flat_operands r.operands ++ (operator_of e.operator ++ (e.mask ++ x)) =
    append_assoc (flat_operands e.operands) (operator_of e.operator ++ e.mask) x
    ∙ ap (λ ns. flat_operands ns ++ (operator_of e.operator ++ e.mask ++ x)) l.operands
    ∙ ap (λ y. flat_operands r.operands ++ y) (append_assoc (operator_of e.operator) e.mask x) in
    let rest = operator_of e.operator ++ (e.mask ++ x) in
    ap (λ y. run library depth (length r.operands + suc m) said (one y (emptied r))) bytes
    ∙ operands_run library depth (suc m) said r.operands rest (emptied r) d s.fit (omega (arith, s.few))
    ∙ run_more library depth m said (one rest r) rest [] (unended_front rest [] (some_act library rest r _ _ _ (l.again library x)))
    ∙ ap (λ a. follow (move depth [] a) said (run library depth m)) (l.again library x)

is_emptied : (r : Registers) → r.operands ≡ [] → r ≡ emptied r
is_emptied r e = ap (λ ops. record { operands = ops; stems = r.stems; mask_len = r.mask_len }) e

one_within : (depth : ℕ) (e : Event) (r : Registers) (x : List ℕ) → 1 ≤ depth → move depth [] (Does (Some e) r (On x)) ≡ Goes (Some e) (one x r)
one_within depth e r x d = rw (le-leb 1 depth d) refl

over_within : (depth : ℕ) (e : Event) (r : Registers) → move depth [] (Does (Some e) r Over) ≡ Goes (Some e) (record { rests = []; registers = r })
over_within depth e r = let z : 0 ≤ depth = omega arith in rw (le-leb 0 depth z) refl

-- an event, and what comes after it
plays_on : (r r' : Registers) (e : Event) (rest : List ℕ) (n : ℕ) (events : List Event) (left : List CharStringNumber) → Sound r → Loud r e r' (On rest) → Plays r' n events left → Plays r (suc n) (e ∷ events) left
plays_on r r' e rest n events left s l p = record {
  by = λ library depth m said d b.
      let m' = m - length r.operands - 1 in
      let x = flat_events events ++ flat_operands left in
      let k : m ≡ length r.operands + suc m' = omega arith in
      let none : length r'.operands ≡ 0 = ap length l.emptied in
      let enough : n + length r'.operands ≤ m' = omega arith in
      ap (λ y. run library depth m said (one y (emptied r))) (append_assoc (flat_event e) (flat_events events) (flat_operands left))
      ∙ ap (λ y. run library depth y said (one (flat_event e ++ x) (emptied r))) k
      ∙ event_run library depth m' said r r' e (On rest) x d s l
      ∙ ap (λ st. follow st said (run library depth m')) (one_within depth e r' x d)
      ∙ ap (λ y. run library depth m' (said ++ e ∷ []) (one x y)) (is_emptied r' l.emptied)
      ∙ p.by library depth m' (said ++ e ∷ []) d enough
      ∙ ap (λ y. Finishes (record { events = y; left = left })) (append_assoc said (e ∷ []) events);
}

-- the last event of the glyph
plays_last : (r r' : Registers) (e : Event) (n : ℕ) → Sound r → Loud r e r' Over → Plays r (suc n) (e ∷ []) []
plays_last r r' e n s l = record {
  by = λ library depth m said d b.
      let m' = m - length r.operands - 1 in
      let k : m ≡ length r.operands + suc m' = omega arith in
      ap (λ y. run library depth m said (one y (emptied r))) (append_assoc (flat_event e) [] [])
      ∙ ap (λ y. run library depth y said (one (flat_event e ++ []) (emptied r))) k
      ∙ event_run library depth m' said r r' e Over [] d s l
      ∙ ap (λ st. follow st said (run library depth m')) (over_within depth e r')
      ∙ run_over library depth m' (said ++ e ∷ []) (record { rests = []; registers = r' }) refl
      ∙ ap (λ y. Finishes (record { events = said ++ e ∷ []; left = y })) l.emptied;
}

plays_silent : (r r' : Registers) (n : ℕ) (events : List Event) (left : List CharStringNumber) → Silent r r' → Plays r' n events left → Plays r (suc n) events left
plays_silent r r' n events left c p = record {
  by = λ library depth m said d b.
      let enough : n + length r'.operands ≤ m = omega (arith, c.one_more) in
      ap (λ y. run library depth m said (one (flat_events events ++ flat_operands left) y))
      (ap (λ y. record { operands = []; stems = y; mask_len = r.mask_len }) (sym c.stems) ∙ ap (λ y. record { operands = []; stems = r'.stems; mask_len = y }) (sym c.mask_len))
      ∙ p.by library depth m said d enough;
}

empty_sound : (r : Registers) → r.operands ≡ [] → Sound r
empty_sound r e =
    let n : length r.operands ≡ 0 = ap length e in
    record { few = omega arith; fit = subst AllFit (sym e) tt }

test_moved : (b : Bool) (event : Option Event) (next : State) (said : List Event) (go : List Event → State → Outcome) (u : Trace) → follow (if b then Goes event next else Faults CFFError) said go ≡ Finishes u → go (with_event said event) next ≡ Finishes u
test_moved true event next said go u e = e
test_moved false event next said go u e = absurd (cc)

-- where the depth allows the step
pub moved : (depth : ℕ) (callers : List (List ℕ)) (event : Option Event) (r : Registers) (lead : Continuation) (said : List Event) (go : List Event → State → Outcome) (u : Trace) → follow (move depth callers (Does event r lead)) said go ≡ Finishes u → go (with_event said event) (record { rests = rests_after lead callers; registers = r }) ≡ Finishes u
moved depth callers event r lead said go u e = test_moved (nat_le (length (rests_after lead callers)) depth) event _ said go u e

module _ (library : Library) (depth : ℕ) where
  -- what is to come from here on, where one step is taken
  ahead_act : (n : ℕ) (said : List Event) (r : Registers) (u : Trace) (callers : List (List ℕ)) (a : Act) → Sound r → Class r a
      → ((said' : List Event) (s' : State) → Sound s'.registers → run library depth n said' s' ≡ Finishes u → Ahead said' s'.registers n u)
      → follow (move depth callers a) said (run library depth n) ≡ Finishes u → Ahead said r (suc n) u
  ahead_act n said r u callers (Fails error) s c ih e = absurd (cc)
  ahead_act n said r u callers (Does None r' lead) s c ih e =
      let a = ih said _ c.sound (moved depth callers None r' lead said (run library depth n) u e) in
      record { events = a.events; said_is = a.said_is; plays = plays_silent r r' n a.events u.left c a.plays }
  ahead_act n said r u callers (Does (Some event) r' (On rest)) s c ih e =
      let a = ih (said ++ event ∷ []) _ (empty_sound r' c.emptied) (moved depth callers (Some event) r' (On rest) said (run library depth n) u e) in
      record { events = event ∷ a.events; said_is = a.said_is ∙ append_assoc said (event ∷ []) a.events; plays = plays_on r r' event rest n a.events u.left s c a.plays }
  ahead_act n said r u callers (Does (Some event) r' Over) s c ih e =
      let over = run_over library depth n (said ++ event ∷ []) (record { rests = []; registers = r' }) refl in
      let done : Finishes (record { events = said ++ event ∷ []; left = r'.operands }) ≡ Finishes u = sym over ∙ moved depth callers (Some event) r' Over said (run library depth n) u e in
      let p : ◌≡◌ {A = Trace} (record { events = said ++ event ∷ []; left = r'.operands }) u = cc in
      let q : ◌≡◌ {A = Trace} (record { events = said ++ event ∷ []; left = [] }) u = ap (λ y. record { events = said ++ event ∷ []; left = y }) (sym c.emptied) ∙ p in
      subst (Ahead said r (suc n)) q (record { events = event ∷ []; said_is = refl; plays = plays_last r r' event n s c })
  ahead_act n said r u callers (Does (Some event) r' (Into body rest)) s c ih e = absurd c.onward
  ahead_act n said r u callers (Does (Some event) r' Back) s c ih e = absurd c.onward

  ahead_zero : (said : List Event) (s : State) (u : Trace) (rests : List (List ℕ)) → unended s.rests ≡ rests → Sound s.registers → run library depth zero said s ≡ Finishes u → Ahead said s.registers zero u
  ahead_zero said s u [] r h e = ahead_over said s.registers zero u h (sym (run_over library depth zero said s r) ∙ e)
  ahead_zero said s u (bytes ∷ callers) r h e =
      let f : Stops CFFError ≡ Finishes u = sym (run_out library depth said s bytes callers r) ∙ e in
      absurd (cc)

  ahead_suc : (n : ℕ) (said : List Event) (s : State) (u : Trace) (rests : List (List ℕ)) → unended s.rests ≡ rests → Sound s.registers
      → ((said' : List Event) (s' : State) → Sound s'.registers → run library depth n said' s' ≡ Finishes u → Ahead said' s'.registers n u)
      → run library depth (suc n) said s ≡ Finishes u → Ahead said s.registers (suc n) u
  ahead_suc n said s u [] r h ih e = ahead_over said s.registers (suc n) u h (sym (run_over library depth (suc n) said s r) ∙ e)
  ahead_suc n said s u (bytes ∷ callers) r h ih e =
      ahead_act n said s.registers u callers (act_at library bytes s.registers) h (class_at library bytes s.registers h) ih
      (sym (run_more library depth n said s bytes callers r) ∙ e)

  -- a run that finishes
  ahead : (n : ℕ) (said : List Event) (s : State) (u : Trace) → Sound s.registers → run library depth n said s ≡ Finishes u → Ahead said s.registers n u
  ahead zero said s u h e = ahead_zero said s u (unended s.rests) refl h e
  ahead (suc n) said s u h e = ahead_suc n said s u (unended s.rests) refl h (λ said' s' h' e'. ahead n said' s' u h' e') e

-- the bytes of a trace have that trace, whatever the subroutines, and take no more tokens
pub plays_back : (library other : Library) (tokens depth depth' : ℕ) (charstring : List ℕ) (u : Trace) → 1 ≤ depth' → outcome library tokens depth charstring ≡ Finishes u → outcome other tokens depth' (flat u) ≡ Finishes u
unfolding outcome
plays_back library other tokens depth depth' charstring u d e =
    let sound : Sound (start charstring).registers = record { few = omega arith; fit = tt } in
    let a = ahead library depth tokens [] (start charstring) u sound e in
    let enough : tokens + 0 ≤ tokens = omega arith in
    ap (λ es. run other depth' tokens [] (start (flat_events es ++ flat_operands u.left))) a.said_is
    ∙ a.plays.by other depth' tokens [] d enough
    ∙ ap (λ es. Finishes (record { events = es; left = u.left })) (sym a.said_is)

-- a flat form has itself as its flat form
flat_again_of : (other : Library) (tokens depth' : ℕ) (flat_bytes : List ℕ) (o : Outcome) → ((u : Trace) → o ≡ Finishes u → outcome other tokens depth' (flat u) ≡ Finishes u) → bytes_of o ≡ Ok flat_bytes → flat_form other tokens depth' flat_bytes ≡ Ok flat_bytes
flat_again_of other tokens depth' flat_bytes (Finishes u) back e =
    let p : flat u ≡ flat_bytes = cc in
    subst (λ x. flat_form other tokens depth' x ≡ Ok x) p (ap bytes_of (back u refl))
flat_again_of other tokens depth' flat_bytes (Stops error) back e = absurd (cc)

pub flat_again : (library other : Library) (tokens depth depth' : ℕ) (charstring flat_bytes : List ℕ) → 1 ≤ depth' → flat_form library tokens depth charstring ≡ Ok flat_bytes → flat_form other tokens depth' flat_bytes ≡ Ok flat_bytes
flat_again library other tokens depth depth' charstring flat_bytes d e =
    flat_again_of other tokens depth' flat_bytes (outcome library tokens depth charstring) (λ u f. plays_back library other tokens depth depth' charstring u d f) e
