use Rattle.std.proofs.Common.{◌≡◌, ℕ, length, Some, sym, subst, ◌∙◌, rules}
use Rattle.subset_font.specs.Making.Outcome.{IsOutcome, IsNoOutcome}
use Rattle.subset_font.specs.Refusals.LimitHint.{within, IsSize, of_outcome, of_failure}
use Rattle.subset_task.specs.declared.task.Plan.{Plan}
use Rattle.subset_font.proofs.refusals.limit_hint.size_within.Goals as goal

pub returns-in-Ok : goal.returns-in-Ok
returns-in-Ok c =
    let made = subst (λ (p : Plan). IsOutcome p c.args.font.now c.in-Ok.outcome) c.within.ensures c.in-Ok.ensures.ok in
    let size : length c.in-Ok.outcome.made.font.items ≡ c.len.result = search rules in
    subst (λ (n : ℕ). IsSize (within c.args.limits c.args.plan.now) c.args.font.now (Some n)) size (of_outcome c.in-Ok.outcome made)

pub returns-else-is_of_memory : goal.returns-else-is_of_memory
returns-else-is_of_memory c =
    let unmade = subst (λ (p : Plan). IsNoOutcome p c.args.font.now c.in-Err.failure) c.within.ensures c.in-Err.ensures.err in
    of_failure c.in-Err.failure (sym c.is_of_memory.ensures ∙ c.if-is_of_memory.false) unmade
