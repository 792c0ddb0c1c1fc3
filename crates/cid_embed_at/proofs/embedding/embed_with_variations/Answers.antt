use Rattle.std.proofs.Common.{◌≡◌, ℕ, Option, None, subst}
use Rattle.subsetter_sfnt.specs.declared.extras.Extras.{Extras}
use Rattle.subsetter_sfnt.specs.Extras.{all_extras}
use Rattle.subsetter_sfnt.specs.FontAt.{font_at}
use Rattle.subsetter_type2.specs.declared.limits.Limits.{Limits}
use Rattle.subsetter.specs.Limits.{token_limit, depth_limit}
use Rattle.cid_embed_at.specs.Embed.{IsEmbedPromisedAt}
use Rattle.cid_embed_at.proofs.embedding.embed_with_variations.Goals as goal

-- what holds of some limits and extras holds of the default limits and all extras, which they are
at_default : (P : Option ℕ → ℕ → ℕ → Extras → Type 0) (limits given : Limits) (extras : Extras) → limits ≡ given → extras ≡ all_extras → given.tokens ≡ token_limit → given.depth ≡ depth_limit → given.bytes ≡ None → P limits.bytes limits.tokens limits.depth extras → P None token_limit depth_limit all_extras
at_default P limits given extras l e t d b p =
    let moved : P given.bytes given.tokens given.depth all_extras = subst (λ (x : Extras). P given.bytes given.tokens given.depth x) e (subst (λ (x : Limits). P x.bytes x.tokens x.depth extras) l p) in
    subst (λ (o : Option ℕ). P o token_limit depth_limit all_extras) b (subst (λ (n : ℕ). P given.bytes n depth_limit all_extras) t (subst (λ (n : ℕ). P given.bytes given.tokens n all_extras) d moved))

pub returns-clause-promise : goal.returns-clause-promise
returns-clause-promise c =
    at_default (λ b t d x. IsEmbedPromisedAt b t d (font_at c.args.«data».now c.args.index x) c.args.coordinates.now c.args.glyphs.now c.embed_with_variations_and_options.result)
    c.keeping_all-options.result.limits c.default.result c.keeping_all-options.result.extras c.keeping_all-options.ensures.limits c.keeping_all-options.ensures.extras c.default.ensures.0 c.default.ensures.1 c.default.ensures.2 c.embed_with_variations_and_options.ensures.promise
