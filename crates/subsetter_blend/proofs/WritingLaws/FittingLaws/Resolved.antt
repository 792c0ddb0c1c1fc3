-- What is answered of a run whose events are written.
use Rattle.std.proofs.Common.{◌≡◌, ◌≢◌, ℕ, List, Ok, Err, sym, ap, ◌∙◌, subst}
use Rattle.std.specs.Prelude.{Result, IfOk, IfErr}
use Rattle.subsetter_base.specs.declared.error.Error.{Error}
use Rattle.subsetter_base.specs.declared.error.Error.TheVariants.{UnknownKind, MalformedFont, Unimplemented, SubsetError, OverflowError, CFFError, OutOfMemory}
use Rattle.subsetter_base.specs.Gives.{Fails, Gives}
use Rattle.subsetter_blend.specs.Resolved.{all_finished}
use Rattle.subsetter_blend.specs.Writing.Written.{Fitted, finished}

pub run_fails : (e : Error) (o : Result Fitted Error) → (e ≢ OutOfMemory → o ≡ Err e) → Fails e (all_finished o)
run_fails UnknownKind o h = ap all_finished (h (λ p. cc))
run_fails MalformedFont o h = ap all_finished (h (λ p. cc))
run_fails Unimplemented o h = ap all_finished (h (λ p. cc))
run_fails SubsetError o h = ap all_finished (h (λ p. cc))
run_fails OverflowError o h = ap all_finished (h (λ p. cc))
run_fails CFFError o h = ap all_finished (h (λ p. cc))
run_fails OutOfMemory o h = tt

pub run_gives : {X : Type 0} (view : X → List ℕ) (o : Result Fitted Error) (f : Fitted) (r : Result X Error) → o ≡ Ok f → IfOk r (λ x. view x ≡ finished f) → IfErr r (λ e. e ≡ OutOfMemory) → Gives view r (all_finished o)
run_gives view o f (Ok x) e ok err = ap all_finished e ∙ ap (λ (l : List ℕ). Ok l) (sym ok)
run_gives view o f (Err x) e ok err = subst (λ (y : Error). Fails y (all_finished o)) (sym err) tt
