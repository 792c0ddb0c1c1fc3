-- A run whose events something else takes too.
use Rattle.std.proofs.Common.{◌≡◌, ℕ, zero, suc, List, [], ◌∷◌, ℤ, length, Bool, true, false, Option, Some, None, Ok, Err, refl, sym, ap, subst, ◌∙◌}
use Rattle.std.specs.Prelude.{Result, nat_le, if◌then◌else◌}
use Rattle.subsetter_base.specs.declared.error.Error.{Error}
use Rattle.subsetter_base.specs.declared.error.Error.TheVariants.{CFFError}
use Rattle.subsetter_type2.specs.Runs.Machine.{Continuation, unended, rests_after}
use Rattle.subsetter_blend.specs.Drawing.{IsAccepted}
use Rattle.subsetter_blend.specs.Runs.Machine.{Setting, Registers, State, Act, Does, Fails, done_with, taken_also, done, act_at, follow, ended, run}
use Rattle.subsetter_blend.specs.Writing.Taking.{Event}
use Rattle.subsetter_blend.proofs.WritingLaws.FittingLaws.Replayed.{Class, class_at}
use Rattle.subsetter_blend.proofs.RunsLaws.Runs.{run_over, run_out, run_more}

-- the other one has an answer, too, of which this holds
pub record Too {T : Type 0} (answer : Result T Error) (P : T → Type 0) : Type 0 where
  pub now : T
  pub is : answer ≡ Ok now
  pub holds : P now

pub within_depth : {S : Type 0} (b : Bool) (p : Result S Error) (x : S) → (if b then p else Err CFFError) ≡ Ok x → (b ≡ true) × (p ≡ Ok x)
within_depth true p x h = (refl, h)
within_depth false p x h = absurd (cc)

pub depth_passes : {T : Type 0} (b : Bool) (p : Result T Error) → b ≡ true → (if b then p else Err CFFError) ≡ p
depth_passes true p e = refl
depth_passes false p e = absurd (cc)

abbrev SaidAccepted : Option Event → Type 0
SaidAccepted None = Unit {0}
SaidAccepted (Some e) = IsAccepted e

module _ {S T : Type 0} (take : Event → S → Result S Error) (too : Event → T → Result T Error) (R : S → T → Type 0)
    (step : (e : Event) (s now : S) (t : T) → IsAccepted e → R s t → take e s ≡ Ok now → Too (too e t) (R now)) (setting : Setting) (depth : ℕ) where
  event_too : (said : Option Event) (s now : S) (t : T) → SaidAccepted said → R s t → taken_also take said s ≡ Ok now → Too (taken_also too said t) (R now)
  event_too None s now t a r h =
      let p : ◌≡◌ {A = S} s now = cc in
      record { now = t; is = refl; holds = subst (λ (x : S). R x t) p r }
  event_too (Some e) s now t a r h = step e s now t a r h

  ended_too : (operands : List ℤ) (s now : S) (t : T) → R s t → ended s operands ≡ Ok now → Too (ended t operands) (R now)
  ended_too [] s now t r h =
      let p : ◌≡◌ {A = S} s now = cc in
      record { now = t; is = refl; holds = subst (λ (x : S). R x t) p r }
  ended_too (z ∷ zs) s now t r h = absurd (cc)

  module _ (n : ℕ) (ih : (s now : S) (t : T) (state : State) → R s t → run take setting depth n s state ≡ Ok now → Too (run too setting depth n t state) (R now)) where
    does_too : (said : Option Event) (next : Registers) (lead : Continuation) (callers : List (List ℕ)) (s now : S) (t : T) (o : Result S Error) → SaidAccepted said → taken_also take said s ≡ o → R s t
        → follow depth callers (done_with next lead o) (run take setting depth n) ≡ Ok now → Too (follow depth callers (done_with next lead (taken_also too said t)) (run too setting depth n)) (R now)
    does_too said next lead callers s now t (Err x) a e r h = absurd (cc)
    does_too said next lead callers s now t (Ok s1) a e r h =
        let w = event_too said s s1 t a r e in
        let state : State = record { rests = rests_after lead callers; registers = next } in
        let d = within_depth (nat_le (length (rests_after lead callers)) depth) (run take setting depth n s1 state) now h in
        let y = ih s1 now w.now state w.holds d.1 in
        record {
          now = y.now;
          is = ap (λ (o : Result T Error). follow depth callers (done_with next lead o) (run too setting depth n)) w.is ∙ depth_passes (nat_le (length (rests_after lead callers)) depth) (run too setting depth n w.now state) d.0 ∙ y.is;
          holds = y.holds;
        }

    act_too : (before : Registers) (a : Act) (callers : List (List ℕ)) (s now : S) (t : T) → Class before a → R s t → follow depth callers (done take a s) (run take setting depth n) ≡ Ok now
        → Too (follow depth callers (done too a t) (run too setting depth n)) (R now)
    act_too before (Fails error) callers s now t c r h = absurd (cc)
    act_too before (Does None next lead) callers s now t c r h = does_too None next lead callers s now t (taken_also take None s) tt refl r h
    act_too before (Does (Some e) next lead) callers s now t c r h = does_too (Some e) next lead callers s now t (taken_also take (Some e) s) c.accepted refl r h

    suc_too : (s now : S) (t : T) (state : State) (rests : List (List ℕ)) → unended state.rests ≡ rests → R s t → run take setting depth (suc n) s state ≡ Ok now → Too (run too setting depth (suc n) t state) (R now)
    suc_too s now t state [] e r h =
        let y = ended_too state.registers.operands s now t r (sym (run_over take setting depth (suc n) s state e) ∙ h) in
        record { now = y.now; is = run_over too setting depth (suc n) t state e ∙ y.is; holds = y.holds }
    suc_too s now t state (bytes ∷ callers) e r h =
        let y = act_too state.registers (act_at setting bytes state.registers) callers s now t (class_at setting bytes state.registers) r (sym (run_more take setting depth n s state bytes callers e) ∙ h) in
        record { now = y.now; is = run_more too setting depth n t state bytes callers e ∙ y.is; holds = y.holds }

  zero_too : (s now : S) (t : T) (state : State) (rests : List (List ℕ)) → unended state.rests ≡ rests → R s t → run take setting depth zero s state ≡ Ok now → Too (run too setting depth zero t state) (R now)
  zero_too s now t state [] e r h =
      let y = ended_too state.registers.operands s now t r (sym (run_over take setting depth zero s state e) ∙ h) in
      record { now = y.now; is = run_over too setting depth zero t state e ∙ y.is; holds = y.holds }
  zero_too s now t state (bytes ∷ callers) e r h =
      let f : Err CFFError ≡ Ok now = sym (run_out take setting depth s state bytes callers e) ∙ h in
      absurd (cc)

  pub run_too : (n : ℕ) (s now : S) (t : T) (state : State) → R s t → run take setting depth n s state ≡ Ok now → Too (run too setting depth n t state) (R now)
  run_too zero s now t state r h = zero_too s now t state (unended state.rests) refl r h
  run_too (suc n) s now t state r h = suc_too n (λ s' now' t' state' r' h'. run_too n s' now' t' state' r' h') s now t state (unended state.rests) refl r h
