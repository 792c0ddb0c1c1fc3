use Rattle.std.proofs.Common.{◌≡◌, ◌∙◌, ap, map, List, subst}
use Rattle.std.specs.Prelude.{◌⊎◌, IfOk, IfErr, OnOk}
use Rattle.subsetter_base.specs.declared.error.Error.TheVariants.{OutOfMemory, OverflowError}
use Rattle.pdf_codes.specs.Codes.{AreCodes, IsOverfull, Used, used_of}
use Rattle.pdf_codes.proofs.calls.codes_of.Goals as goal

pub returns-clause-ok : goal.returns-clause-ok
returns-clause-ok c = subst (λ (us : List Used). IfOk c.codes_for.result (λ codes. AreCodes c.args.choice us codes.items)) (ap (map used_of) c.deref-2.ensures.value ∙ c.in_ok-entries.ensures.ok) c.codes_for.ensures.ok

pub returns-clause-room : goal.returns-clause-room
returns-clause-room c = subst (λ (us : List Used). OnOk c.codes_for.result (IsOverfull c.args.choice us → ⊥)) (ap (map used_of) c.deref-2.ensures.value ∙ c.in_ok-entries.ensures.ok) c.codes_for.ensures.room

pub returns-clause-err : goal.returns-clause-err
returns-clause-err c = subst (λ (us : List Used). IfErr c.codes_for.result (λ e. (e ≡ OutOfMemory) ⊎ ((e ≡ OverflowError) × IsOverfull c.args.choice us))) (ap (map used_of) c.deref-2.ensures.value ∙ c.in_ok-entries.ensures.ok) c.codes_for.ensures.err
