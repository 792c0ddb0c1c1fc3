-- A text that is answered, handed over.
use Rattle.std.proofs.Common.{◌≡◌, ℕ, List, Result, Err, sym, subst, ◌∙◌}
use Rattle.std.specs.Prelude.{IfOk, IfErr, String, string_bytes}
use Rattle.std.specs.Global.{Global}
use Rattle.subsetter_base.specs.declared.error.Error.{Error}
use Rattle.subsetter_base.specs.declared.error.Error.TheVariants.{OutOfMemory}
use Rattle.subsetter_c.specs.Answers.Handed.{IsHandedOver}
use Rattle.font_reasons.specs.declared.asked.Call.{Call}
use Rattle.subsetter_c.specs.Reasons.{IsTextAnswered}
use Rattle.subsetter_c.proofs.AnswersLaws.Bytes.{said_as}

pub text_handed : (wanted : List ℕ) (answer : Result (String Global) Error) (before after : List ℕ) (told status : ℕ) → IfOk answer (λ t. string_bytes t ≡ wanted) → IfErr answer (λ e. e ≡ OutOfMemory) → IsHandedOver (IsTextAnswered answer) (λ e. answer ≡ Err e) before after told status → IsHandedOver (λ b. b ≡ wanted) (λ e. e ≡ OutOfMemory) before after told status
text_handed wanted answer before after told status ok err = said_as (IsTextAnswered answer) (λ b. b ≡ wanted) (λ e. answer ≡ Err e) (λ e. e ≡ OutOfMemory) before after told status
    (λ bytes a. sym a.2 ∙ subst (λ (r : Result (String Global) Error). IfOk r (λ t. string_bytes t ≡ wanted)) a.1 ok)
    (λ e is. subst (λ (r : Result (String Global) Error). IfErr r (λ e. e ≡ OutOfMemory)) is err)

-- that of a call which has a number
pub explained_handed : (call named : Call) (text : Call → List ℕ) (answer : Result (String Global) Error) (before after : List ℕ) (told handed : ℕ) → call ≡ named → IfOk answer (λ t. string_bytes t ≡ text call) → IfErr answer (λ e. e ≡ OutOfMemory) → IsHandedOver (IsTextAnswered answer) (λ e. answer ≡ Err e) before after told handed → IsHandedOver (λ b. b ≡ text named) (λ e. e ≡ OutOfMemory) before after told handed
explained_handed call named text answer before after told handed is ok err h =
    text_handed (text named) answer before after told handed (subst (λ (k : Call). IfOk answer (λ t. string_bytes t ≡ text k)) is ok) err h
