use Rattle.std.proofs.Common.{◌≡◌, sym, refl, ◌∙◌, Err}
use Rattle.subsetter_c.specs.Answers.Handed.{refused}
use Rattle.subsetter_c.specs.Reasons.{IsTextAnswered}
use Rattle.subsetter_c.proofs.AnswersLaws.Bytes.{bytes_handed, said_as}
use Rattle.subsetter_c.proofs.reasons.hand_text.Goals as goal

pub returns-in-Ok : goal.returns-in-Ok
returns-in-Ok c =
    said_as (λ b. b ≡ c.as_bytes.result.now) (IsTextAnswered c.args.answer) (λ e. ⊥) (λ e. c.args.answer ≡ Err e) c.args.buffer.now c.hand_bytes.new.buffer c.hand_bytes.new.told c.hand_bytes.result
    (λ b is. (c.in-Ok.text, c.in-Ok.is, sym (is ∙ c.as_bytes.ensures.value))) (λ e none. absurd none) (bytes_handed c.as_bytes.result.now c.args.buffer.now c.hand_bytes.new.buffer c.hand_bytes.new.told c.hand_bytes.result c.hand_bytes.ensures.size c.hand_bytes.ensures.whole c.hand_bytes.ensures.short)

pub returns-in-Err : goal.returns-in-Err
returns-in-Err c = refused c.in-Err.error c.in-Err.is refl refl c.status_of.ensures
