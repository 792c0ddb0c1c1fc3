-- What is explained of a call whose options are requested by words.
use Rattle.std.proofs.Common.{◌≡◌, ℕ, ℤ, List, Option, ap, ◌∙◌}
use Rattle.subsetter.specs.declared.choice.Options.{Options}
use Rattle.subsetter_base.specs.declared.error.Error.{Error}
use Rattle.subsetter_base.specs.declared.tag.Tag.{Tag}
use Rattle.subsetter_sfnt.specs.declared.extras.Extras.{Extras}
use Rattle.font_reasons.specs.Calls.{Question}
use Rattle.font_reasons.specs.declared.asked.Call.{Call}
use Rattle.subsetter_c.specs.Options.{AreRequested, requested_depth, requested_extras, requested_tokens}
use Rattle.subsetter_c.specs.Reasons.{question, reason_of}

abbrev pub with_options : Call → ℕ → List (Tag × ℤ) → List ℕ → Error → Extras → ℕ → ℕ → Option ℕ → Question
with_options call index settings glyphs e extras tokens depth bytes = record { call = call; error = e; index = index; glyphs = glyphs; coordinates = settings; extras = extras; tokens = tokens; depth = depth; bound = bytes; bytes = bytes }

pub answered : (call : Call) (index : ℕ) (settings : List (Tag × ℤ)) (glyphs words font : List ℕ) (e : Error) (options : Options) → AreRequested words options
    → reason_of (with_options call index settings glyphs e options.extras options.limits.tokens options.limits.depth options.limits.bytes) font ≡ reason_of (question call index settings glyphs words e) font
answered call index settings glyphs words font e options are =
    ap (λ x. reason_of (with_options call index settings glyphs e x options.limits.tokens options.limits.depth options.limits.bytes) font) are.extras
    ∙ (ap (λ t. reason_of (with_options call index settings glyphs e (requested_extras words) t options.limits.depth options.limits.bytes) font) are.tokens
    ∙ (ap (λ d. reason_of (with_options call index settings glyphs e (requested_extras words) (requested_tokens words) d options.limits.bytes) font) are.depth
    ∙ ap (λ b. reason_of (with_options call index settings glyphs e (requested_extras words) (requested_tokens words) (requested_depth words) b) font) are.bytes))
