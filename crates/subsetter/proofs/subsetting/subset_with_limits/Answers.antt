use Rattle.std.proofs.Common.{◌≡◌, subst}
use Rattle.subsetter_sfnt.specs.declared.extras.Extras.{Extras}
use Rattle.subsetter_sfnt.specs.Extras.{all_extras}
use Rattle.subsetter_sfnt.specs.FontAt.{font_at}
use Rattle.subsetter_type2.specs.declared.limits.Limits.{Limits}
use Rattle.subsetter.specs.Promise.{IsPromised}
use Rattle.subsetter.proofs.subsetting.subset_with_limits.Goals as goal

-- what holds of some limits and extras holds of these limits and all extras, which they are
at_all : (P : Limits → Extras → Type 0) (limits given : Limits) (extras : Extras) → limits ≡ given → extras ≡ all_extras → P limits extras → P given all_extras
at_all P limits given extras l e p = subst (λ (x : Extras). P given x) e (subst (λ (x : Limits). P x extras) l p)

pub returns : goal.returns
returns c = record { promise = at_all (λ l x. IsPromised (λ v. v.items) l.bytes l.tokens l.depth (font_at c.args.«data».now c.args.index x) c.args.mapper.now c.subset_with_options.result) c.keeping_all-options.result.limits c.args.limits.now c.keeping_all-options.result.extras c.keeping_all-options.ensures.limits c.keeping_all-options.ensures.extras c.subset_with_options.ensures.promise }
