use Rattle.std.proofs.Common.{◌≡◌, ◌∙◌}
use Rattle.subsetter_c.specs.Answers.Status.{status_text}
use Rattle.subsetter_c.proofs.AnswersLaws.Bytes.{bytes_handed, said_as}
use Rattle.subsetter_c.proofs.calls.subsetter_error_text.Goals as goal

pub returns : goal.returns
returns c =
    said_as (λ b. b ≡ c.status_text.result.now) (λ b. b ≡ status_text c.args.status) (λ e. ⊥) (λ e. ⊥) c.args.out.now c.hand_bytes.new.buffer c.hand_bytes.new.told c.hand_bytes.result
    (λ b is. is ∙ c.status_text.ensures) (λ e none. none) (bytes_handed c.status_text.result.now c.args.out.now c.hand_bytes.new.buffer c.hand_bytes.new.told c.hand_bytes.result c.hand_bytes.ensures.size c.hand_bytes.ensures.whole c.hand_bytes.ensures.short)
