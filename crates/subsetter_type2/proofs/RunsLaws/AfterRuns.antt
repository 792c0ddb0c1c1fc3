-- A run whose bytes come after others, one step at a time.
use Rattle.std.proofs.Common.{◌≡◌, ℕ, zero, suc, ◌<◌, ◌≤◌, true, List, [], ◌∷◌, ◌++◌, length, Option, Some, None, Ok, Err, refl, sym, ap, ◌∙◌, subst, append-nil, append_assoc, arith}
use Rattle.std.specs.Prelude.{Result}
use Rattle.std.proofs.lemmas.Bool.{ltb-true}
use Rattle.std.proofs.lemmas.Grind.{flat_map-append}
use Rattle.std.proofs.lemmas.List.{length-append}
use Rattle.subsetter_base.specs.Within.{is_past, IsTooLong}
use Rattle.subsetter_base.specs.Gives.{Fails as FailsWith, following}
use Rattle.subsetter_base.specs.declared.error.Error.{Error}
use Rattle.subsetter_base.specs.declared.error.Error.TheVariants.{UnknownKind, MalformedFont, Unimplemented, SubsetError, OverflowError, CFFError, OutOfMemory}
use Rattle.subsetter_type2.specs.Runs.Following.{ReachedAfter}
use Rattle.subsetter_type2.specs.Flat.{flat_event, flat_events, flat_operands, bytes_of}
use Rattle.subsetter_type2.specs.Runs.Machine.{Library, Registers, State, Event, Act, Does, Fails, Continuation, Step, Goes, Faults, Trace, Outcome, Finishes, Stops, unended, ended_or, follow, with_event, move, act_at, rests_after, run, outcome}
use Rattle.subsetter_type2.specs.Runs.Reached.{Reached}
use Rattle.subsetter_type2.specs.View.{event_bytes, Done, done}
use Rattle.subsetter_type2.proofs.RunsLaws.Runs.{reached_start, reached_over, reached_out, reached_fault, reached_deep, reached_more, reached_same}

-- ---- an act settles the same bytes after others
record Own (a : Act) (front own : List ℕ) (d : Done) : Type 0 where
  its : Done
  is : done a own ≡ Ok its
  registers : its.registers ≡ d.registers
  lead : its.lead ≡ d.lead
  split : d.settled ≡ front ++ its.settled

own_done : (a : Act) (front own settled : List ℕ) (d : Done) → settled ≡ front ++ own → done a settled ≡ Ok d → Own a front own d
own_done (Does said next lead) front own settled d e h =
    let p : ◌≡◌ {A = Done} (record { registers = next; settled = settled ++ event_bytes said; lead = lead }) d = cc in
    record {
      its = record { registers = next; settled = own ++ event_bytes said; lead = lead };
      is = refl;
      registers = ap (λ (x : Done). x.registers) p;
      lead = ap (λ (x : Done). x.lead) p;
      split = sym (ap (λ (x : Done). x.settled) p) ∙ ap (λ (l : List ℕ). l ++ event_bytes said) e ∙ append_assoc front own (event_bytes said);
    }
own_done (Fails x) front own settled d e h = absurd (cc)

own_fault : (a : Act) (own settled : List ℕ) (error : Error) → done a settled ≡ Err error → done a own ≡ Err error
own_fault (Does said next lead) own settled error h = absurd (cc)
own_fault (Fails x) own settled error h = cc

-- ---- how far the run has come
pub after_start : (front : List ℕ) (library : Library) (limit depth : ℕ) (charstring : List ℕ) (rests : List (List ℕ)) (registers : Registers) (settled : List ℕ) → rests ≡ charstring ∷ [] → registers ≡ record { operands = []; stems = 0; mask_len = 0 } → settled ≡ front
    → ReachedAfter front (outcome library limit depth charstring) library depth limit (record { rests = rests; registers = registers }) settled
after_start front library limit depth charstring rests registers settled e d f =
    record { own = []; split = f ∙ sym (append-nil front); reached = reached_start library limit depth charstring rests registers [] e d refl }

pub after_same : (front : List ℕ) (o : Outcome) (library : Library) (depth tokens : ℕ) (registers : Registers) (a b : List (List ℕ)) (settled : List ℕ) → ReachedAfter front o library depth tokens (record { rests = a; registers = registers }) settled → unended a ≡ unended b
    → ReachedAfter front o library depth tokens (record { rests = b; registers = registers }) settled
after_same front o library depth tokens registers a b settled h e = record { own = h.own; split = h.split; reached = reached_same o library depth tokens registers a b h.own h.reached e }

module _ (front : List ℕ) (o : Outcome) (library : Library) (depth tokens : ℕ) (s : State) (settled : List ℕ) (h : ReachedAfter front o library depth tokens s settled) where
  -- the answer where nothing is left
  pub after_over : unended s.rests ≡ [] → following front (bytes_of o) ≡ Ok (settled ++ flat_operands s.registers.operands)
  after_over e =
      ap (following front) (reached_over o library depth tokens s h.own h.reached e)
      ∙ ap (λ (l : List ℕ). Ok l) (sym (append_assoc front h.own (flat_operands s.registers.operands)) ∙ ap (λ (l : List ℕ). l ++ flat_operands s.registers.operands) (sym h.split))

  -- the fault where no token is left
  pub past_out : (bytes : List ℕ) (callers : List (List ℕ)) → tokens ≡ 0 → unended s.rests ≡ bytes ∷ callers → o ≡ Stops CFFError
  past_out bytes callers n e = reached_out o library depth tokens s h.own h.reached bytes callers n e

  module _ (bytes : List ℕ) (callers : List (List ℕ)) (left : ℕ) (n : tokens ≡ suc left) (e : unended s.rests ≡ bytes ∷ callers) where
    -- an act's fault is the run's
    pub after_fault : (error : Error) → done (act_at library bytes s.registers) settled ≡ Err error → o ≡ Stops error
    after_fault error f = reached_fault o library depth tokens s h.own h.reached bytes callers left n e error (own_fault (act_at library bytes s.registers) h.own settled error f)

    -- a call that goes too deep
    pub after_deep : (d : Done) → done (act_at library bytes s.registers) settled ≡ Ok d → depth < length (rests_after d.lead callers) → o ≡ Stops CFFError
    after_deep d f l =
        let w = own_done (act_at library bytes s.registers) front h.own settled d h.split f in
        reached_deep o library depth tokens s h.own h.reached bytes callers left n e w.its w.is (subst (λ (x : Continuation). depth < length (rests_after x callers)) (sym w.lead) l)

    -- an act leads on
    pub after_more : (d : Done) (rests : List (List ℕ)) → done (act_at library bytes s.registers) settled ≡ Ok d → rests ≡ rests_after d.lead callers → length rests ≤ depth
        → ReachedAfter front o library depth left (record { rests = rests; registers = d.registers }) d.settled
    after_more d rests f r l =
        let w = own_done (act_at library bytes s.registers) front h.own settled d h.split f in
        record {
          own = w.its.settled;
          split = w.split;
          reached = subst (λ (x : Registers). Reached o library depth left (record { rests = rests; registers = x }) w.its.settled) w.registers
              (reached_more o library depth tokens s h.own h.reached bytes callers left n e w.its rests w.is (r ∙ ap (λ (x : Continuation). rests_after x callers) (sym w.lead)) l);
        }

-- ---- what is answered
pub after_none : (r : Result (List ℕ) Error) → following [] r ≡ r
after_none (Ok x) = refl
after_none (Err e) = refl

pub after_stops : (front : List ℕ) (o : Outcome) (e : Error) → o ≡ Stops e → following front (bytes_of o) ≡ Err e
after_stops front o e h = ap (λ (x : Outcome). following front (bytes_of x)) h

pub after_fails : (front : List ℕ) (r : Result (List ℕ) Error) (e : Error) → FailsWith e r → FailsWith e (following front r)
after_fails front r UnknownKind h = ap (following front) h
after_fails front r MalformedFont h = ap (following front) h
after_fails front r Unimplemented h = ap (following front) h
after_fails front r SubsetError h = ap (following front) h
after_fails front r OverflowError h = ap (following front) h
after_fails front r CFFError h = ap (following front) h
after_fails front r OutOfMemory h = tt

-- ---- what was settled stays

-- a run that finishes has said more
said_stays : (library : Library) (depth tokens : ℕ) (said : List Event) (s : State) (t : Trace) → run library depth tokens said s ≡ Finishes t → (more : List Event) × (t.events ≡ said ++ more)
unfolding run
said_stays library depth zero said s t h = by (unended s.rests) h
  where
    by : (rests : List (List ℕ)) → ended_or rests (Finishes (record { events = said; left = s.registers.operands })) (λ bytes callers. Stops CFFError) ≡ Finishes t → (more : List Event) × (t.events ≡ said ++ more)
    by [] e = let p : ◌≡◌ {A = Trace} (record { events = said; left = s.registers.operands }) t = cc in ([], sym (ap (λ (x : Trace). x.events) p) ∙ sym (append-nil said))
    by (bytes ∷ callers) e = absurd (cc)
said_stays library depth (suc tokens) said s t h = by (λ now next e. said_stays library depth tokens now next t e) (unended s.rests) h
  where
    event_stays : (said : List Event) (event : Option Event) (more : List Event) → (rest : List Event) × (with_event said event ++ more ≡ said ++ rest)
    event_stays said None more = (more, refl)
    event_stays said (Some event) more = (event ∷ more, append_assoc said (event ∷ []) more)

    by_step : ((now : List Event) (next : State) → run library depth tokens now next ≡ Finishes t → (more : List Event) × (t.events ≡ now ++ more)) → (step : Step) → follow step said (run library depth tokens) ≡ Finishes t → (more : List Event) × (t.events ≡ said ++ more)
    by_step later (Goes event next) e =
        let m = later (with_event said event) next e in
        let r = event_stays said event m.0 in
        (r.0, m.1 ∙ r.1)
    by_step later (Faults error) e = absurd (cc)

    by : ((now : List Event) (next : State) → run library depth tokens now next ≡ Finishes t → (more : List Event) × (t.events ≡ now ++ more)) → (rests : List (List ℕ)) → ended_or rests (Finishes (record { events = said; left = s.registers.operands })) (λ bytes callers. follow (move depth callers (act_at library bytes s.registers)) said (run library depth tokens)) ≡ Finishes t → (more : List Event) × (t.events ≡ said ++ more)
    by later [] e = let p : ◌≡◌ {A = Trace} (record { events = said; left = s.registers.operands }) t = cc in ([], sym (ap (λ (x : Trace). x.events) p) ∙ sym (append-nil said))
    by later (bytes ∷ callers) e = by_step later (move depth callers (act_at library bytes s.registers)) e

-- what is settled is no longer than the whole
pub settled_stays : (front : List ℕ) (o : Outcome) (library : Library) (depth tokens : ℕ) (s : State) (settled : List ℕ) → ReachedAfter front o library depth tokens s settled → (all : List ℕ) → following front (bytes_of o) ≡ Ok all → length settled ≤ length all
settled_stays front (Stops e) library depth tokens s settled h all k = absurd (cc)
settled_stays front (Finishes t) library depth tokens s settled h all k =
    let m = said_stays library depth tokens h.reached.said s t (sym h.reached.same) in
    let whole : front ++ (flat_events t.events ++ flat_operands t.left) ≡ all = cc in
    let split : flat_events t.events ≡ flat_events h.reached.said ++ flat_events m.0 = ap flat_events m.1 ∙ flat_map-append flat_event h.reached.said m.0 in
    omega (arith, ap length (sym whole), length-append front (flat_events t.events ++ flat_operands t.left), length-append (flat_events t.events) (flat_operands t.left), ap length split, length-append (flat_events h.reached.said) (flat_events m.0), ap length h.split, length-append front h.own, ap length h.reached.settled_is)

-- so a bound that it passes is passed by the whole
pub settled_past : (bound : Option ℕ) (front : List ℕ) (o : Outcome) (library : Library) (depth tokens : ℕ) (s : State) (settled : List ℕ) → ReachedAfter front o library depth tokens s settled → is_past bound (length settled) ≡ true → IsTooLong bound length (following front (bytes_of o))
settled_past None front o library depth tokens s settled h p = absurd (cc)
settled_past (Some most) front o library depth tokens s settled h p = record { most = most; is_set = refl; longer = λ all k. omega (arith, ltb-true most (length settled) p, settled_stays front o library depth tokens s settled h all k) }
