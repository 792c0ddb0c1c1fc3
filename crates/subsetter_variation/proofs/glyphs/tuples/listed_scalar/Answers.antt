use Rattle.std.proofs.Common.{◌≡◌, ◌<◌, ◌%◌, ℕ, ℤ, Some, length, get_or, pos, sym, subst, ap, ◌∙◌}
use Rattle.subsetter_variation.specs.Region.{scalar}
use Rattle.subsetter_variation.specs.Packing.Packed.{word_in}
use Rattle.subsetter_variation.specs.Glyphs.SharedScalars.{IsSharedScalar}
use Rattle.subsetter_variation.proofs.GlyphsLaws.SharedTuples.{if_some, listed_is}
use Rattle.subsetter_variation.proofs.glyphs.tuples.listed_scalar.Goals as goal

pub returns-clause-value : goal.returns-clause-value
returns-clause-value c = λ next e.
    let at = c.args.at.now in
    let scalars = c.args.scalars.now in
    let flags = c.in_ok-flags.flags in
    let h : word_in c.args.r.now.headers ≡ Some (c.in_ok-_size._size, c.in_ok-_size.rest.now) = ap (λ r. word_in r.headers) (sym c.r.view_is) ∙ c.in_ok-_size.ensures in
    let q : c.from.result ≡ flags % 4096 = c.from.ensures in
    if_some c.scalar_at.result (λ (x : ℤ). (c.from.result < length scalars) × (x ≡ get_or scalars c.from.result (pos 0))) (λ (x : ℤ). x ≡ scalar next.0.region at)
    (λ x p.
    let here : IsSharedScalar c.args.t.now at c.from.result x = subst (IsSharedScalar c.args.t.now at c.from.result) (sym p.1) (c.requires c.from.result p.0) in
    listed_is c.args.t.now c.args.r.now next c.in_ok-_size._size flags c.in_ok-_size.rest.now c.in_ok-flags._rest.now at x h c.in_ok-flags.ensures c.if-flags-ge-INTERMEDIATE_REGION.false (subst (λ (k : ℕ). IsSharedScalar c.args.t.now at k x) q here) e)
    c.scalar_at.ensures
