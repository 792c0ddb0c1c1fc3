use Rattle.subset_font.specs.Refusals.LimitHint.{long}
use Rattle.subset_font.proofs.refusals.limit_hint.limit_hint.Goals as goal

pub returns-in-Ok-Some : goal.returns-in-Ok-Some
returns-in-Ok-Some c = long c.in-Ok-Some.hint (rw c.in-Ok-Some.field-0-is at c.in-Ok-Some.ensures)
