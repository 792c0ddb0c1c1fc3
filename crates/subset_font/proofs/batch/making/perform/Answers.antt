use Rattle.std.proofs.Common.{map, rules}
use Rattle.std.proofs.lemmas.Result.{err_from_is_err_and}
use Rattle.subset_task.specs.Chosen.{kept_of}
use Rattle.subset_font.proofs.BatchLaws.{done_of, undone_of, unlisted_of}
use Rattle.subset_font.proofs.batch.making.perform.Goals as goal

pub returns-clause-ok : goal.returns-clause-ok
returns-clause-ok g c = done_of c.args.font.now c.args.job.now c.in_ok-lists.lists.items (map kept_of c.deref-4.result.now) c.plan_of-plan.result c.carry_answer.result _ _ _ _ (search rules) c.plan_of-plan.ensures c.carry_answer.ensures.ok

pub returns-clause-err : goal.returns-clause-err
returns-clause-err g c = undone_of c.args.font.now c.args.job.now c.in_ok-lists.lists.items (map kept_of c.deref-4.result.now) c.plan_of-plan.result c.carry_answer.result (search rules) c.plan_of-plan.ensures c.carry_answer.ensures.err

pub returns-in_err-lists-clause-err : goal.returns-in_err-lists-clause-err
returns-in_err-lists-clause-err g c =
    let p = err_from_is_err_and c.from_residual.result c.from_residual.ensures.1 in
    rw (p.1, p.2) (unlisted_of c.args.font.now c.args.job.now c.deref.result.now c.in_err-lists.field-0.0 c.deref.ensures.value c.in_err-lists.ensures.err)
