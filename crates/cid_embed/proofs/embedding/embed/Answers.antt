use Rattle.std.proofs.Common.{◌≡◌, ℕ, Option, None, subst}
use Rattle.subsetter_sfnt.specs.Extras.{all_extras}
use Rattle.subsetter_sfnt.specs.Read.{Font}
use Rattle.subsetter.specs.Limits.{token_limit, depth_limit}
use Rattle.cid_embed.specs.Embed.{IsEmbedPromised}
use Rattle.cid_embed.proofs.embedding.embed.Goals as goal

-- what holds at some limits holds at the default ones, which they are
at_default : (P : Option ℕ → ℕ → ℕ → Type 0) (bound : Option ℕ) (tokens depth : ℕ) → tokens ≡ token_limit → depth ≡ depth_limit → bound ≡ None → P bound tokens depth → P None token_limit depth_limit
at_default P bound tokens depth t d b p = subst (λ (o : Option ℕ). P o token_limit depth_limit) b (subst (λ (n : ℕ). P bound n depth_limit) t (subst (λ (n : ℕ). P bound tokens n) d p))

pub returns : goal.returns
returns c =
    let font : Font = record { bytes = c.args.«data».now; index = c.args.index; extras = all_extras } in
    record { promise = at_default (λ b t d. IsEmbedPromised b t d font c.args.glyphs.now c.embed_with_limits.result) c.default.result.bytes c.default.result.tokens c.default.result.depth c.default.ensures.0 c.default.ensures.1 c.default.ensures.2 c.embed_with_limits.ensures.promise }
