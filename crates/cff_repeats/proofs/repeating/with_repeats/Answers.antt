use Rattle.cff_repeats.proofs.Whole.{given_have}
use Rattle.cff_repeats.proofs.repeating.with_repeats.Goals as goal

pub returns-clause-ok : goal.returns-clause-ok
returns-clause-ok c = given_have c.args.cff.now c.args.figures.now (λ v. v.items) c.repeat_exactly.result c.repeat_exactly.ensures
