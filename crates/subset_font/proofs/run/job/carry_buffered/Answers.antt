use Rattle.subset_font.proofs.RefusalsLaws.Failing.{no_usage}
use Rattle.subset_font.proofs.run.job.carry_buffered.Goals as goal

pub returns : goal.returns
returns g c = no_usage c.args.plan.now _ c.carry_out.result c.carry_out.ensures.err
