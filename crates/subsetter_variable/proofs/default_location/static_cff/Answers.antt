use Rattle.std.proofs.Common.{◌≡◌, ℕ, Option, Some, None, Vec, Global, subst, ◌∙◌}
use Rattle.std.specs.Prelude.{MatchOption}
use Rattle.subsetter_base.proofs.Options.{just_is}
use Rattle.subsetter_sfnt.specs.Extras.{all_extras}
use Rattle.subsetter_sfnt.specs.FontAt.{font_at}
use Rattle.subsetter_type2.specs.declared.limits.Limits.{Limits}
use Rattle.subsetter_cff_instance.specs.Promise.{IsCffInstancePromised}
use Rattle.subsetter_variable.proofs.Static.{cff_ok, cff_faultless, cff_err}
use Rattle.subsetter_variable.proofs.default_location.static_cff.Goals as goal

-- what holds at limits that are made of two numbers holds at these, without a bound
at_made : (P : Option ℕ → ℕ → ℕ → Type 0) (made : Option Limits) (l : Limits) (tokens depth given_tokens given_depth : ℕ) → made ≡ Some l → MatchOption made (depth ≡ 0) (λ m. (m.tokens ≡ tokens) × (m.depth ≡ depth) × (m.bytes ≡ None))
    → tokens ≡ given_tokens → depth ≡ given_depth → P l.bytes l.tokens l.depth → P None given_tokens given_depth
at_made P None l tokens depth given_tokens given_depth is made t d p = absurd cc
at_made P (Some k) l tokens depth given_tokens given_depth is made t d p =
    let e : (l.tokens ≡ tokens) × (l.depth ≡ depth) × (l.bytes ≡ None) = subst (λ (m : Limits). (m.tokens ≡ tokens) × (m.depth ≡ depth) × (m.bytes ≡ None)) (just_is k l is) made in
    subst (λ (o : Option ℕ). P o given_tokens given_depth) e.2 (subst (λ (n : ℕ). P l.bytes n given_depth) (e.0 ∙ t) (subst (λ (n : ℕ). P l.bytes l.tokens n) (e.1 ∙ d) p))

pub returns-clause-ok : goal.returns-clause-ok
returns-clause-ok c =
    let font = font_at c.args.«data».now c.args.index all_extras in
    cff_ok {X = Vec ℕ Global} (λ v. v.items) c.args.limits.now.tokens c.args.limits.now.depth font c.args.coordinates.now c.args.mapper.now c.cff_instance.result
    (at_made (λ b t d. IsCffInstancePromised {X = Vec ℕ Global} (λ v. v.items) b t d font c.args.coordinates.now c.args.mapper.now c.cff_instance.result) c.new.result c.unwrap-unbounded.result c.tokens.result c.depth.result c.args.limits.now.tokens c.args.limits.now.depth c.unwrap-unbounded.ensures c.new.ensures c.tokens.ensures c.depth.ensures.value
    c.cff_instance.ensures.promise)

pub returns-clause-clean : goal.returns-clause-clean
returns-clause-clean c =
    let font = font_at c.args.«data».now c.args.index all_extras in
    cff_faultless {X = Vec ℕ Global} (λ v. v.items) c.args.limits.now.tokens c.args.limits.now.depth font c.args.coordinates.now c.args.mapper.now c.cff_instance.result
    (at_made (λ b t d. IsCffInstancePromised {X = Vec ℕ Global} (λ v. v.items) b t d font c.args.coordinates.now c.args.mapper.now c.cff_instance.result) c.new.result c.unwrap-unbounded.result c.tokens.result c.depth.result c.args.limits.now.tokens c.args.limits.now.depth c.unwrap-unbounded.ensures c.new.ensures c.tokens.ensures c.depth.ensures.value
    c.cff_instance.ensures.promise)

pub returns-clause-err : goal.returns-clause-err
returns-clause-err c =
    let font = font_at c.args.«data».now c.args.index all_extras in
    cff_err {X = Vec ℕ Global} (λ v. v.items) c.args.limits.now.tokens c.args.limits.now.depth font c.args.coordinates.now c.args.mapper.now c.cff_instance.result
    (at_made (λ b t d. IsCffInstancePromised {X = Vec ℕ Global} (λ v. v.items) b t d font c.args.coordinates.now c.args.mapper.now c.cff_instance.result) c.new.result c.unwrap-unbounded.result c.tokens.result c.depth.result c.args.limits.now.tokens c.args.limits.now.depth c.unwrap-unbounded.ensures c.new.ensures c.tokens.ensures c.depth.ensures.value
    c.cff_instance.ensures.promise)
