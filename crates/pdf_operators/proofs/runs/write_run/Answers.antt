use Rattle.pdf_operators.specs.Operators.{acts_of}
use Rattle.pdf_operators.proofs.Shown.{shown_of}
use Rattle.pdf_operators.proofs.runs.write_run.Goals as goal

pub returns-in-Ok-clause-shown : goal.returns-in-Ok-clause-shown
returns-in-Ok-clause-shown c = shown_of c.args.font c.args.direction c.args.order c.args.size c.args.pairs.now c.args.items.now (acts_of c.args.operations.now) _ c.requires.acts c.requires.coded c.in-Ok.ensures.read
