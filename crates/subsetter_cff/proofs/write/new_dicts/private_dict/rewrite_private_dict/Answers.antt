use Rattle.std.proofs.Common.{sym, ◌∙◌, subst}
use Rattle.std.proofs.lemmas.Result.{err_from_is_err_and}
use Rattle.subsetter_base.specs.Gives.{Fails}
use Rattle.subsetter_cff.proofs.write.new_dicts.private_dict.rewrite_private_dict.Goals as goal

pub loop-rest-preserved : goal.loop-rest-preserved
loop-rest-preserved c = (rw c.in-Some.is at c.in_ok-rest.ensures.ok).0 ∙ c.loop-rest.invariant

pub loop-rest-smaller : goal.loop-rest-smaller
loop-rest-smaller c = (rw c.in-Some.is at c.in_ok-rest.ensures.ok).1

pub returns-in_err-rest-clause-err : goal.returns-in_err-rest-clause-err
returns-in_err-rest-clause-err c =
    let p = err_from_is_err_and c.from_residual.result c.from_residual.ensures.1 in
    rw (p.1, p.2) (subst (λ r. Fails c.in_err-rest.field-0.0 r) c.loop-rest.invariant c.in_err-rest.ensures.err)

pub returns-clause-ok : goal.returns-clause-ok
returns-clause-ok c = sym c.loop-rest.invariant ∙ (rw c.in_default.is at c.in_ok-rest.ensures.ok)
