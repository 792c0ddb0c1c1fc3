use Rattle.subset_font.specs.Refusals.LimitHint.{short, limited}
use Rattle.subset_font.proofs.refusals.limit_hint.other_limit.Goals as goal

pub returns-in-Ok-Some : goal.returns-in-Ok-Some
returns-in-Ok-Some c = short c.in-Ok-Some.hint c.requires (rw c.in-Ok-Some.field-0-is at c.in-Ok-Some.ensures)

pub returns-in-Ok-None : goal.returns-in-Ok-None
returns-in-Ok-None c = limited c.requires (rw c.in-Ok-None.field-0-is at c.in-Ok-None.ensures)
