-- A run, one step at a time.
use Rattle.std.proofs.Common.{◌≡◌, ℕ, zero, suc, ◌<◌, ◌≤◌, ℤ, List, [], ◌∷◌, length, false, Ok, Err, refl, ap, ◌∙◌, arith}
use Rattle.std.specs.Prelude.{Result, nat_le, if◌then◌else◌}
use Rattle.std.proofs.lemmas.Bool.{le-leb}
use Rattle.std.proofs.lemmas.Bool.Decides.{nat_tests}
use Rattle.subsetter_base.specs.declared.error.Error.{Error}
use Rattle.subsetter_base.specs.declared.error.Error.TheVariants.{CFFError}
use Rattle.subsetter_type2.specs.Runs.Machine.{unended, rests_after}
use Rattle.subsetter_blend.specs.Runs.Machine.{Setting, Registers, State, Done, done, act_at, follow, ended, run, run_all}
use Rattle.subsetter_blend.specs.Writing.Taking.{Event}

module _ {S : Type 0} (take : Event → S → Result S Error) (setting : Setting) (depth : ℕ) where
  -- nothing is left to run
  pub run_over : (tokens : ℕ) (s : S) (state : State) → unended state.rests ≡ [] → run take setting depth tokens s state ≡ ended s state.registers.operands
  unfolding run
  run_over zero s state e = rw e refl
  run_over (suc tokens) s state e = rw e refl

  -- a token is wanted, and none is left
  pub run_out : (s : S) (state : State) (bytes : List ℕ) (callers : List (List ℕ)) → unended state.rests ≡ bytes ∷ callers → run take setting depth zero s state ≡ Err CFFError
  unfolding run
  run_out s state bytes callers e = rw e refl

  -- a token is taken
  pub run_more : (tokens : ℕ) (s : S) (state : State) (bytes : List ℕ) (callers : List (List ℕ)) → unended state.rests ≡ bytes ∷ callers
      → run take setting depth (suc tokens) s state ≡ follow depth callers (done take (act_at setting bytes state.registers) s) (run take setting depth tokens)
  unfolding run
  run_more tokens s state bytes callers e = rw e refl

  -- a run goes by what is left of the charstrings that are not at their ends
  pub run_same : (tokens : ℕ) (s : S) (registers : Registers) (a b : List (List ℕ)) → unended a ≡ unended b
      → run take setting depth tokens s (record { rests = a; registers = registers }) ≡ run take setting depth tokens s (record { rests = b; registers = registers })
  unfolding run
  run_same zero s registers a b e = rw e refl
  run_same (suc tokens) s registers a b e = rw e refl

  too_deep : (n : ℕ) (a b : Result S Error) → depth < n → (if nat_le n depth then a else b) ≡ b
  too_deep n a b h = grind (arith, nat_tests)

  -- the fault of a token is that of the run
  pub run_fault : (tokens left : ℕ) (s : S) (state : State) (bytes : List ℕ) (callers : List (List ℕ)) (error : Error) → tokens ≡ suc left → unended state.rests ≡ bytes ∷ callers
      → done take (act_at setting bytes state.registers) s ≡ Err error → run take setting depth tokens s state ≡ Err error
  run_fault tokens left s state bytes callers error n e f =
      ap (λ (t : ℕ). run take setting depth t s state) n ∙ run_more left s state bytes callers e
      ∙ ap (λ (d : Result (Done S) Error). follow depth callers d (run take setting depth left)) f

  -- a token leads too deep
  pub run_deep : (tokens left : ℕ) (s : S) (state : State) (bytes : List ℕ) (callers : List (List ℕ)) (d : Done S) → tokens ≡ suc left → unended state.rests ≡ bytes ∷ callers
      → done take (act_at setting bytes state.registers) s ≡ Ok d → depth < length (rests_after d.lead callers) → run take setting depth tokens s state ≡ Err CFFError
  run_deep tokens left s state bytes callers d n e f l =
      ap (λ (t : ℕ). run take setting depth t s state) n ∙ run_more left s state bytes callers e
      ∙ ap (λ (x : Result (Done S) Error). follow depth callers x (run take setting depth left)) f
      ∙ too_deep (length (rests_after d.lead callers)) _ _ l

  -- a token leads on
  pub run_on : (tokens left : ℕ) (s : S) (state : State) (bytes : List ℕ) (callers : List (List ℕ)) (d : Done S) → tokens ≡ suc left → unended state.rests ≡ bytes ∷ callers
      → done take (act_at setting bytes state.registers) s ≡ Ok d → length (rests_after d.lead callers) ≤ depth
      → run take setting depth tokens s state ≡ run take setting depth left d.taken (record { rests = rests_after d.lead callers; registers = d.registers })
  run_on tokens left s state bytes callers d n e f l =
      ap (λ (t : ℕ). run take setting depth t s state) n ∙ run_more left s state bytes callers e
      ∙ ap (λ (x : Result (Done S) Error). follow depth callers x (run take setting depth left)) f
      ∙ rw (le-leb (length (rests_after d.lead callers)) depth l) refl

  pub run_start : (limit tokens data_index : ℕ) (charstring : List ℕ) (s : S) (rests : List (List ℕ)) (registers : Registers) → rests ≡ charstring ∷ []
      → registers ≡ record { operands = []; stems = 0; mask_len = 0; data_index = data_index; settled = false } → tokens ≡ limit
      → run_all take setting limit depth data_index charstring s ≡ run take setting depth tokens s (record { rests = rests; registers = registers })
  unfolding run_all
  run_start limit tokens data_index charstring s rests registers e d f = rw (e, d, f) refl

pub ended_none : {S : Type 0} (s : S) (operands : List ℤ) → length operands ≡ 0 → ended s operands ≡ Ok s
ended_none s [] h = refl
ended_none s (z ∷ zs) h = absurd (omega arith)

pub ended_some : {S : Type 0} (s : S) (operands : List ℤ) → (length operands ≡ 0 → ⊥) → ended s operands ≡ Err CFFError
ended_some s [] h = absurd (h refl)
ended_some s (z ∷ zs) h = refl
