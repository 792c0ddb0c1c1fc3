use Rattle.subset_font.proofs.MakingLaws.Outcomes.{unplaced_of}
use Rattle.subset_font.proofs.making.outcome.make_at_instance.Goals as goal

pub returns-in-Err-clause-err : goal.returns-in-Err-clause-err
returns-in-Err-clause-err c = unplaced_of c.args.plan.now c.args.font.now c.args.name.now c.in-Err.failure c.requires c.in-Err.ensures.err
