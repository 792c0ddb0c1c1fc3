-- A run, one step at a time, and what the flattener has written by then.
use Rattle.std.proofs.Common.{◌≡◌, ◌≢◌, ℕ, zero, suc, ◌<◌, ◌≤◌, List, [], ◌∷◌, ◌++◌, length, Option, Some, None, Ok, Err, refl, sym, ap, ◌∙◌, subst, append-nil, arith}
use Rattle.std.proofs.lemmas.Grind.{flat_map-append}
use Rattle.std.proofs.lemmas.Bool.{le-leb}
use Rattle.std.proofs.lemmas.Bool.Decides.{nat_tests}
use Rattle.subsetter_base.specs.declared.error.Error.{Error}
use Rattle.subsetter_base.specs.declared.error.Error.TheVariants.{UnknownKind, MalformedFont, Unimplemented, SubsetError, OverflowError, CFFError, OutOfMemory}
use Rattle.subsetter_base.specs.Gives.{Fails as FailsWith}
use Rattle.subsetter_type2.specs.Runs.Machine.{Library, Registers, State, Event, Act, Does, Fails, Step, Goes, Faults, Outcome, Finishes, Stops, unended, follow, with_event, act_at, move, rests_after, run, outcome}
use Rattle.subsetter_type2.specs.Flat.{flat_event, flat_events, flat_operands, bytes_of}
use Rattle.std.specs.Prelude.{nat_le, if◌then◌else◌}
use Rattle.subsetter_type2.specs.Runs.Reached.{Reached}
use Rattle.subsetter_type2.specs.View.{event_bytes, Done, done}

-- nothing is left to run
pub run_over : (library : Library) (depth tokens : ℕ) (said : List Event) (s : State) → unended s.rests ≡ [] → run library depth tokens said s ≡ Finishes (record { events = said; left = s.registers.operands })
unfolding run
run_over library depth zero said s e = rw e
run_over library depth (suc tokens) said s e = rw e

-- a token is wanted, and none is left
pub run_out : (library : Library) (depth : ℕ) (said : List Event) (s : State) (bytes : List ℕ) (callers : List (List ℕ)) → unended s.rests ≡ bytes ∷ callers → run library depth zero said s ≡ Stops CFFError
unfolding run
run_out library depth said s bytes callers e = rw e

-- a token is taken
pub run_more : (library : Library) (depth tokens : ℕ) (said : List Event) (s : State) (bytes : List ℕ) (callers : List (List ℕ)) → unended s.rests ≡ bytes ∷ callers → run library depth (suc tokens) said s ≡ follow (move depth callers (act_at library bytes s.registers)) said (run library depth tokens)
unfolding run
run_more library depth tokens said s bytes callers e = rw e

said_bytes_more : (said : List Event) (event : Option Event) → flat_events said ++ event_bytes event ≡ flat_events (with_event said event)
said_bytes_more said None = append-nil (flat_events said)
said_bytes_more said (Some event) = ap (λ b. flat_events said ++ b) (sym (append-nil (flat_event event))) ∙ sym (flat_map-append flat_event said (event ∷ []))

-- a run goes by what is left of the charstrings that are not at their ends
pub run_same : (library : Library) (depth tokens : ℕ) (said : List Event) (registers : Registers) (a b : List (List ℕ)) → unended a ≡ unended b → run library depth tokens said (record { rests = a; registers = registers }) ≡ run library depth tokens said (record { rests = b; registers = registers })
unfolding run
run_same library depth zero said registers a b e = rw e refl
run_same library depth (suc tokens) said registers a b e = rw e refl

pub reached_same : (o : Outcome) (library : Library) (depth tokens : ℕ) (registers : Registers) (a b : List (List ℕ)) (settled : List ℕ) → Reached o library depth tokens (record { rests = a; registers = registers }) settled → unended a ≡ unended b → Reached o library depth tokens (record { rests = b; registers = registers }) settled
reached_same o library depth tokens registers a b settled h e =
    record { said = h.said; settled_is = h.settled_is; same = h.same ∙ run_same library depth tokens h.said registers a b e }

pub reached_start : (library : Library) (limit depth : ℕ) (charstring : List ℕ) (rests : List (List ℕ)) (registers : Registers) (settled : List ℕ) → rests ≡ charstring ∷ [] → registers ≡ record { operands = []; stems = 0; mask_len = 0 } → settled ≡ [] → Reached (outcome library limit depth charstring) library depth limit (record { rests = rests; registers = registers }) settled
unfolding outcome
reached_start library limit depth charstring rests registers settled e d f =
    record { said = []; settled_is = f; same = rw (e, d) refl }

too_deep : (n depth : ℕ) (a b : Step) → depth < n → (if nat_le n depth then a else b) ≡ b
too_deep n depth a b h = grind (arith, nat_tests)

move_fault : (depth : ℕ) (callers : List (List ℕ)) (a : Act) (settled : List ℕ) (error : Error) → done a settled ≡ Err error → move depth callers a ≡ Faults error
move_fault depth callers (Does event next lead) settled error e = cc
move_fault depth callers (Fails x) settled error e = cc

move_deep : (depth : ℕ) (callers : List (List ℕ)) (a : Act) (settled : List ℕ) (d : Done) → done a settled ≡ Ok d → depth < length (rests_after d.lead callers) → move depth callers a ≡ Faults CFFError
move_deep depth callers (Does event next lead) settled d e =
    let p : ◌≡◌ {A = Done} (record { registers = next; settled = settled ++ event_bytes event; lead = lead }) d = cc in
    let P : Done → Type 0 = λ x. depth < length (rests_after x.lead callers) → move depth callers (Does event next lead) ≡ Faults CFFError in
    subst P p (λ h. too_deep (length (rests_after lead callers)) depth _ _ h)
move_deep depth callers (Fails x) settled d e = absurd (cc)

move_goes : (depth : ℕ) (callers : List (List ℕ)) (a : Act) (settled : List ℕ) (d : Done) → done a settled ≡ Ok d → length (rests_after d.lead callers) ≤ depth
    → (event : Option Event) × (move depth callers a ≡ Goes event (record { rests = rests_after d.lead callers; registers = d.registers })) × (d.settled ≡ settled ++ event_bytes event)
move_goes depth callers (Does event next lead) settled d e =
    let p : ◌≡◌ {A = Done} (record { registers = next; settled = settled ++ event_bytes event; lead = lead }) d = cc in
    let P : Done → Type 0 = λ x. length (rests_after x.lead callers) ≤ depth → (ev : Option Event) × (move depth callers (Does event next lead) ≡ Goes ev (record { rests = rests_after x.lead callers; registers = x.registers })) × (x.settled ≡ settled ++ event_bytes ev) in
    subst P p (λ h. (event, rw (le-leb _ _ h) refl, refl))
move_goes depth callers (Fails x) settled d e = absurd (cc)

module _ (o : Outcome) (library : Library) (depth tokens : ℕ) (s : State) (settled : List ℕ) (h : Reached o library depth tokens s settled) where
  -- the answer where nothing is left
  pub reached_over : unended s.rests ≡ [] → bytes_of o ≡ Ok (settled ++ flat_operands s.registers.operands)
  reached_over e =
      ap bytes_of (h.same ∙ run_over library depth tokens h.said s e) ∙ ap (λ b. Ok (b ++ flat_operands s.registers.operands)) (sym h.settled_is)

  -- the fault where no token is left
  pub reached_out : (bytes : List ℕ) (callers : List (List ℕ)) → tokens ≡ 0 → unended s.rests ≡ bytes ∷ callers → o ≡ Stops CFFError
  reached_out bytes callers n e =
      h.same ∙ ap (λ t. run library depth t h.said s) n ∙ run_out library depth h.said s bytes callers e

  module _ (bytes : List ℕ) (callers : List (List ℕ)) (left : ℕ) (n : tokens ≡ suc left) (e : unended s.rests ≡ bytes ∷ callers) where
    moves : (step : Step) → move depth callers (act_at library bytes s.registers) ≡ step → o ≡ follow step h.said (run library depth left)
    moves step m =
        h.same ∙ ap (λ t. run library depth t h.said s) n ∙ run_more library depth left h.said s bytes callers e
        ∙ ap (λ st. follow st h.said (run library depth left)) m

    -- an act's fault is the run's
    pub reached_fault : (error : Error) → done (act_at library bytes s.registers) settled ≡ Err error → o ≡ Stops error
    reached_fault error f = moves (Faults error) (move_fault depth callers _ settled error f)

    -- a call that goes too deep
    pub reached_deep : (d : Done) → done (act_at library bytes s.registers) settled ≡ Ok d → depth < length (rests_after d.lead callers) → o ≡ Stops CFFError
    reached_deep d f l = moves (Faults CFFError) (move_deep depth callers _ settled d f l)

    -- an act leads on
    pub reached_more : (d : Done) (rests : List (List ℕ)) → done (act_at library bytes s.registers) settled ≡ Ok d → rests ≡ rests_after d.lead callers → length rests ≤ depth → Reached o library depth left (record { rests = rests; registers = d.registers }) d.settled
    reached_more d rests f r l =
        let within : length (rests_after d.lead callers) ≤ depth = omega (arith, ap length r) in
        let g = move_goes depth callers _ settled d f within in
        record {
          said = with_event h.said g.0;
          settled_is = g.2 ∙ ap (λ b. b ++ event_bytes g.0) h.settled_is ∙ said_bytes_more h.said g.0;
          same = moves _ g.1 ∙ ap (λ rs. run library depth left (with_event h.said g.0) (record { rests = rs; registers = d.registers })) (sym r);
        }

-- what is answered where the run stops, or memory ran out
pub gives_fault : (e : Error) (o : Outcome) → (e ≢ OutOfMemory → o ≡ Stops e) → FailsWith e (bytes_of o)
gives_fault UnknownKind o h = ap bytes_of (h (λ p. cc))
gives_fault MalformedFont o h = ap bytes_of (h (λ p. cc))
gives_fault Unimplemented o h = ap bytes_of (h (λ p. cc))
gives_fault SubsetError o h = ap bytes_of (h (λ p. cc))
gives_fault OverflowError o h = ap bytes_of (h (λ p. cc))
gives_fault CFFError o h = ap bytes_of (h (λ p. cc))
gives_fault OutOfMemory o h = tt
