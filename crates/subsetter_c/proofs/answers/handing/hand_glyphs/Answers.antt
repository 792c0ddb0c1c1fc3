use Rattle.std.proofs.Common.{◌≡◌, sym, refl, ◌∙◌, Err}
use Rattle.subsetter_c.specs.Answers.Handed.{IsAnswered, refused}
use Rattle.subsetter_c.proofs.AnswersLaws.Bytes.{bytes_handed, said_as}
use Rattle.subsetter_c.proofs.answers.handing.hand_glyphs.Goals as goal

pub returns-in-Ok : goal.returns-in-Ok
returns-in-Ok c =
    said_as (λ b. b ≡ c.deref.result.now) (IsAnswered c.args.answer) (λ e. ⊥) (λ e. c.args.answer ≡ Err e) c.args.buffer.now c.hand_numbers.new.buffer c.hand_numbers.new.told c.hand_numbers.result
    (λ b is. (c.in-Ok.glyphs, c.in-Ok.is, sym (is ∙ c.deref.ensures.value))) (λ e none. absurd none) (bytes_handed c.deref.result.now c.args.buffer.now c.hand_numbers.new.buffer c.hand_numbers.new.told c.hand_numbers.result c.hand_numbers.ensures.size c.hand_numbers.ensures.whole c.hand_numbers.ensures.short)

pub returns-in-Err : goal.returns-in-Err
returns-in-Err c = refused c.in-Err.error c.in-Err.is refl refl c.status_of.ensures
