use Rattle.std.proofs.Common.{inl}
use Rattle.subset_font.proofs.BatchLaws.{all_made, why_made}
use Rattle.subset_font.proofs.RefusalsLaws.Failing.{unmade}
use Rattle.subset_font.proofs.batch.making.carry_answer.Goals as goal

pub returns-in-Ok-clause-ok : goal.returns-in-Ok-clause-ok
returns-in-Ok-clause-ok g c = all_made c.carry_made.result _ _ _ _ (λ object p w t. record { outcome = c.in-Ok.outcome; is_made = c.in-Ok.ensures.ok; is_shown = p; is_written = w; is_reported = t }) c.carry_made.ensures.page c.carry_made.ensures.font c.carry_made.ensures.object

pub returns-in-Ok-clause-err : goal.returns-in-Ok-clause-err
returns-in-Ok-clause-err g c = why_made c.args.plan.now c.args.font.now c.carry_made.result c.carry_made.ensures.err

pub returns-in-Err-clause-err : goal.returns-in-Err-clause-err
returns-in-Err-clause-err g c = inl (unmade c.args.plan.now c.args.font.now c.in-Err.failure c.in-Err.ensures.err)
