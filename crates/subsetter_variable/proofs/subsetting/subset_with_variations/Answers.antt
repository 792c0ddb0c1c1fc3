use Rattle.std.proofs.Common.{◌≡◌, ℕ, Option, None, subst}
use Rattle.subsetter_sfnt.specs.Extras.{all_extras}
use Rattle.subsetter_sfnt.specs.FontAt.{font_at}
use Rattle.subsetter.specs.Limits.{token_limit, depth_limit}
use Rattle.subsetter_variable.specs.Promise.{IsPromisedAt}
use Rattle.subsetter_variable.proofs.subsetting.subset_with_variations.Goals as goal

-- what holds at some limits holds at the default ones, which they are
at_default : (P : ℕ → ℕ → Option ℕ → Type 0) (tokens depth : ℕ) (bound : Option ℕ) → tokens ≡ token_limit → depth ≡ depth_limit → bound ≡ None → P tokens depth bound → P token_limit depth_limit None
at_default P tokens depth bound t d b p = subst (λ (n : ℕ). P n depth_limit None) t (subst (λ (n : ℕ). P tokens n None) d (subst (λ (o : Option ℕ). P tokens depth o) b p))

pub returns-clause-promise : goal.returns-clause-promise
returns-clause-promise c =
    at_default (λ t d b. IsPromisedAt (λ v. v.items) b t d (font_at c.args.«data».now c.args.index all_extras) c.args.coordinates.now c.args.mapper.now c.subset_with_variations_and_limits.result)
    c.default-limits.result.tokens c.default-limits.result.depth c.default-limits.result.bytes c.default-limits.ensures.0 c.default-limits.ensures.1 c.default-limits.ensures.2 c.subset_with_variations_and_limits.ensures.promise
