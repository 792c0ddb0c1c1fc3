use Rattle.subset_font.specs.Making.Outcome.{as_given}
use Rattle.subset_font.proofs.MakingLaws.Outcomes.{outcome_of, unshown_of, unmade_of}
use Rattle.subset_font.proofs.making.outcome.make_as_given.Goals as goal

pub returns-in-Ok-clause-ok : goal.returns-in-Ok-clause-ok
returns-in-Ok-clause-ok c = outcome_of c.args.plan.now c.args.font.now c.args.plan.now.task (as_given c.requires.instance c.requires.default) c.in-Ok.made c.in-Ok.ensures.ok c.with_more.result c.with_more.ensures.made c.with_more.ensures.sheet c.with_more.ensures.more c.with_more.ensures.names

pub returns-in-Ok-clause-err : goal.returns-in-Ok-clause-err
returns-in-Ok-clause-err c = unshown_of c.args.plan.now c.args.font.now c.args.plan.now.task (as_given c.requires.instance c.requires.default) c.in-Ok.made c.in-Ok.ensures.ok c.with_more.result c.with_more.ensures.err

pub returns-in-Err-clause-err : goal.returns-in-Err-clause-err
returns-in-Err-clause-err c = unmade_of c.args.plan.now c.args.font.now c.args.plan.now.task (as_given c.requires.instance c.requires.default) c.in-Err.failure c.in-Err.ensures.err
