-- With more tokens and more depth a run that finishes stays as it is.
use Rattle.std.proofs.Common.{◌≡◌, ℕ, zero, suc, ◌≤◌, List, [], ◌∷◌, length, Option, Bool, true, false, refl, sym, ap, ◌∙◌, arith, max}
use Rattle.std.proofs.lemmas.Bool.{le-leb}
use Rattle.std.proofs.lemmas.Bool.Decides.{nat_tests}
use Rattle.std.specs.Prelude.{nat_le, if◌then◌else◌}
use Rattle.subsetter_base.specs.declared.error.Error.TheVariants.{CFFError}
use Rattle.subsetter_type2.specs.Runs.Machine.{Library, State, Event, Trace, Act, Does, Fails, Goes, Faults, Outcome, Finishes, Stops, unended, follow, with_event, act_at, move, rests_after, run, outcome, start}
use Rattle.subsetter_type2.proofs.RunsLaws.Runs.{run_more, run_over, run_out}
use Rattle.subsetter_type2.proofs.Playback.{moved}

test_true : (b : Bool) (event : Option Event) (next : State) (said : List Event) (go : List Event → State → Outcome) (u : Trace) → follow (if b then Goes event next else Faults CFFError) said go ≡ Finishes u → b ≡ true
test_true true event next said go u e = refl
test_true false event next said go u e = absurd (cc)

module _ (library : Library) (depth more : ℕ) (deeper : depth ≤ more) where
  act_more : (callers : List (List ℕ)) (a : Act) (said : List Event) (go go' : List Event → State → Outcome) (u : Trace) → ((said' : List Event) (s' : State) → go said' s' ≡ Finishes u → go' said' s' ≡ Finishes u) → follow (move depth callers a) said go ≡ Finishes u → follow (move more callers a) said go' ≡ Finishes u
  act_more callers (Fails error) said go go' u ih e = absurd (cc)
  act_more callers (Does event r lead) said go go' u ih e =
      let t : nat_le (length (rests_after lead callers)) depth ≡ true = test_true (nat_le (length (rests_after lead callers)) depth) event _ said go u e in
      let small : length (rests_after lead callers) ≤ depth = grind (arith, nat_tests) in
      let within : length (rests_after lead callers) ≤ more = omega arith in
      let m : move more callers (Does event r lead) ≡ Goes event (record { rests = rests_after lead callers; registers = r }) = rw (le-leb (length (rests_after lead callers)) more within) refl in
      ap (λ st. follow st said go') m ∙ ih (with_event said event) _ (moved depth callers event r lead said go u e)

  from_zero : (n : ℕ) (said : List Event) (s : State) (u : Trace) (rests : List (List ℕ)) → unended s.rests ≡ rests → run library depth zero said s ≡ Finishes u → run library more n said s ≡ Finishes u
  from_zero n said s u [] r e = run_over library more n said s r ∙ sym (run_over library depth zero said s r) ∙ e
  from_zero n said s u (bytes ∷ callers) r e =
      let f : Stops CFFError ≡ Finishes u = sym (run_out library depth said s bytes callers r) ∙ e in
      absurd (cc)

  from_suc : (n n' : ℕ) (said : List Event) (s : State) (u : Trace) (rests : List (List ℕ)) → unended s.rests ≡ rests → ((said' : List Event) (s' : State) → run library depth n said' s' ≡ Finishes u → run library more n' said' s' ≡ Finishes u) → run library depth (suc n) said s ≡ Finishes u → run library more (suc n') said s ≡ Finishes u
  from_suc n n' said s u [] r ih e = run_over library more (suc n') said s r ∙ sym (run_over library depth (suc n) said s r) ∙ e
  from_suc n n' said s u (bytes ∷ callers) r ih e =
      run_more library more n' said s bytes callers r
      ∙ act_more callers (act_at library bytes s.registers) said (run library depth n) (run library more n') u ih (sym (run_more library depth n said s bytes callers r) ∙ e)

  run_longer : (n n' : ℕ) (said : List Event) (s : State) (u : Trace) → n ≤ n' → run library depth n said s ≡ Finishes u → run library more n' said s ≡ Finishes u
  run_longer zero n' said s u l e = from_zero n' said s u (unended s.rests) refl e
  run_longer (suc n) zero said s u l e = absurd (omega arith)
  run_longer (suc n) (suc n') said s u l e =
      let l' : n ≤ n' = omega arith in
      from_suc n n' said s u (unended s.rests) refl (λ said' s' e'. run_longer n n' said' s' u l' e') e

-- more tokens and more depth keep a trace
pub outcome_longer : (library : Library) (n n' d d' : ℕ) (charstring : List ℕ) (u : Trace) → n ≤ n' → d ≤ d' → outcome library n d charstring ≡ Finishes u → outcome library n' d' charstring ≡ Finishes u
unfolding outcome
outcome_longer library n n' d d' charstring u l k e = run_longer library d d' k n n' [] (start charstring) u l e

-- a trace that is there at two limits is the same at both
pub same_trace : (library : Library) (n n' d d' : ℕ) (charstring : List ℕ) (u v : Trace) → outcome library n d charstring ≡ Finishes u → outcome library n' d' charstring ≡ Finishes v → u ≡ v
same_trace library n n' d d' charstring u v e f =
    let a = outcome_longer library n (max n n') d (max d d') charstring u (omega arith) (omega arith) e in
    let b = outcome_longer library n' (max n n') d' (max d d') charstring v (omega arith) (omega arith) f in
    let p : Finishes u ≡ Finishes v = sym a ∙ b in
    cc
