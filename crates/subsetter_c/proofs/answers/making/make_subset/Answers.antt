use Rattle.std.proofs.Common.{refl, ap, ◌∙◌}
use Rattle.subsetter_c.specs.Answers.Made.{whole, refused, only_font}
use Rattle.subsetter_c.proofs.answers.making.make_subset.Goals as goal

pub returns-in-Ok : goal.returns-in-Ok
returns-in-Ok c = whole (c.in-Ok.bytes.items, (c.in-Ok.bytes, c.in-Ok.is, refl), c.only_font.ensures ∙ ap only_font c.kept_bytes.ensures) refl

pub returns-in-Err : goal.returns-in-Err
returns-in-Err c = refused c.in-Err.error c.in-Err.is c.nothing.ensures c.status_of.ensures
