-- What holds at options holds at what the words ask for.
use Rattle.std.proofs.Common.{ℕ, List, Option, subst}
use Rattle.subsetter_sfnt.specs.declared.extras.Extras.{Extras}
use Rattle.subsetter.specs.declared.choice.Options.{Options}
use Rattle.subsetter_c.specs.Options.{AreRequested, requested_bytes, requested_tokens, requested_depth, requested_extras}

pub at_asked : (P : Option ℕ → ℕ → ℕ → Extras → Type 0) (words : List ℕ) (options : Options) → AreRequested words options → P options.limits.bytes options.limits.tokens options.limits.depth options.extras → P (requested_bytes words) (requested_tokens words) (requested_depth words) (requested_extras words)
at_asked P words options a p =
    subst (P (requested_bytes words) (requested_tokens words) (requested_depth words)) a.extras
    (subst (λ (d : ℕ). P (requested_bytes words) (requested_tokens words) d options.extras) a.depth
    (subst (λ (t : ℕ). P (requested_bytes words) t options.limits.depth options.extras) a.tokens
    (subst (λ (b : Option ℕ). P b options.limits.tokens options.limits.depth options.extras) a.bytes p)))
