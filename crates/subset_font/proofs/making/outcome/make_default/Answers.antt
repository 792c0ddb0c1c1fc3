use Rattle.std.proofs.Common.{refl, sym, subst}
use Rattle.subset_font.specs.Making.Outcome.{IsTaskOfPlan, at_default}
use Rattle.subset_font.proofs.MakingLaws.Outcomes.{outcome_of, unshown_of, unmade_of}
use Rattle.subset_font.proofs.making.outcome.make_default.Goals as goal

pub returns-in-Ok-clause-ok : goal.returns-in-Ok-clause-ok
returns-in-Ok-clause-ok c =
    let is_placed = subst (IsTaskOfPlan c.args.plan.now c.args.font.now) (sym c.task_at-task.ensures) (at_default _ c.requires.instance c.requires.default refl) in
    outcome_of c.args.plan.now c.args.font.now c.task_at-task.result is_placed c.in-Ok.made c.in-Ok.ensures.ok c.with_more.result c.with_more.ensures.made c.with_more.ensures.sheet c.with_more.ensures.more c.with_more.ensures.names

pub returns-in-Ok-clause-err : goal.returns-in-Ok-clause-err
returns-in-Ok-clause-err c =
    let is_placed = subst (IsTaskOfPlan c.args.plan.now c.args.font.now) (sym c.task_at-task.ensures) (at_default _ c.requires.instance c.requires.default refl) in
    unshown_of c.args.plan.now c.args.font.now c.task_at-task.result is_placed c.in-Ok.made c.in-Ok.ensures.ok c.with_more.result c.with_more.ensures.err

pub returns-in-Err-clause-err : goal.returns-in-Err-clause-err
returns-in-Err-clause-err c =
    let is_placed = subst (IsTaskOfPlan c.args.plan.now c.args.font.now) (sym c.task_at-task.ensures) (at_default _ c.requires.instance c.requires.default refl) in
    unmade_of c.args.plan.now c.args.font.now c.task_at-task.result is_placed c.in-Err.failure c.in-Err.ensures.err
