use Rattle.std.proofs.Common.{refl}
use Rattle.subsetter_c.specs.Answers.Made.{whole, refused}
use Rattle.subsetter_c.proofs.AnswersLaws.Made.{alike}
use Rattle.subsetter_c.proofs.answers.making.make_embedded.Goals as goal

pub returns-in-Ok : goal.returns-in-Ok
returns-in-Ok c = whole (c.in-Ok.embedded, c.in-Ok.is, alike _ _ _ _ _ _ c.kept_bytes.ensures c.kept_shorts.ensures c.kept_words.ensures) refl

pub returns-in-Err : goal.returns-in-Err
returns-in-Err c = refused c.in-Err.error c.in-Err.is c.nothing.ensures c.status_of.ensures
