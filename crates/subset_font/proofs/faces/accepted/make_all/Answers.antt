use Rattle.std.proofs.Common.{refl}
use Rattle.subset_task.specs.declared.task.RequestedGlyphs.TheVariants.{Every}
use Rattle.subset_font.proofs.faces.accepted.make_all.Goals as goal

pub returns-in-Ok-clause-ok : goal.returns-in-Ok-clause-ok
returns-in-Ok-clause-ok c = record { limits = c.limits_for-limits.result; task = c.task_for-task.result; few = c.limits_for-limits.ensures; is_plain = c.task_for-task.ensures Every refl; made = c.in-Ok._made; is_made = c.in-Ok.ensures.ok }

pub returns-in-Err-clause-err : goal.returns-in-Err-clause-err
returns-in-Err-clause-err c = record { limits = c.limits_for-limits.result; task = c.task_for-task.result; is_plain = c.task_for-task.ensures Every refl; is_unmade = c.in-Err.ensures.err }
