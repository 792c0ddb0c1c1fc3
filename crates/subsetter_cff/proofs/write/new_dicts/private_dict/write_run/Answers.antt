use Rattle.std.proofs.Common.{subst, arith}
use Rattle.std.proofs.lemmas.Result.{err_from_is_err_and}
use Rattle.subsetter_base.specs.Gives.{Fails}
use Rattle.subsetter_cff.proofs.WriteLaws.NewDictsLaws.Rewriting.{copied_shorter, copied_from, rewrites_from}
use Rattle.subsetter_cff.proofs.write.new_dicts.private_dict.write_run.Goals as goal

pub overflow_sub-end : goal.overflow_sub-end
overflow_sub-end c = omega (arith, copied_shorter c.args.bytes.now c.skip_plain-rest.result.now c.skip_plain-rest.ensures)

pub returns-in_err-more-clause-err : goal.returns-in_err-more-clause-err
returns-in_err-more-clause-err c =
    let p = err_from_is_err_and c.from_residual-in_err-more.result c.from_residual-in_err-more.ensures.1 in
    rw (p.1, p.2) (subst (λ r. Fails c.in_err-more.field-0.0 r) (copied_from c.args.w.now c.args.bytes.now c.skip_plain-rest.result.now _ c.skip_plain-rest.ensures c.in_ok-extend.ensures.ok) c.in_err-more.ensures.err)

pub returns-clause-ok : goal.returns-clause-ok
returns-clause-ok c =
    rewrites_from c.args.w.now _ c.args.bytes.now c.skip_plain-rest.result.now _ _
    (copied_from c.args.w.now c.args.bytes.now c.skip_plain-rest.result.now _ c.skip_plain-rest.ensures c.in_ok-extend.ensures.ok)
    (copied_shorter c.args.bytes.now c.skip_plain-rest.result.now c.skip_plain-rest.ensures)
    c.in_ok-more.ensures.ok
