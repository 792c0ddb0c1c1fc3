use Rattle.std.proofs.Common.{Some, ℤ, FitsSigned, w16, slice_set, refl, ap, ◌∙◌}
use Rattle.std.proofs.lemmas.Int.{to_z-of_z}
use Rattle.subsetter_variation.specs.Glyphs.Varied.{deltas_of}
use Rattle.subsetter_variation.proofs.Touching.{touched_at, touched_delta}
use Rattle.subsetter_variation.proofs.glyphs.varied.with_delta.Goals as goal

pub returns-clause-at : goal.returns-clause-at
returns-clause-at c = touched_at c.args.points.items c.args.number _ c.index_mut.result.now c.index_mut.ensures.value refl

pub returns-clause-delta : goal.returns-clause-delta
returns-clause-delta c =
    let f : FitsSigned w16 c.args.delta = c.ranges.delta in
    touched_delta c.args.points.items c.args.number _ ∙ ap (λ (d : ℤ). slice_set (deltas_of c.args.points.items) c.args.number (Some d)) (to_z-of_z w16 c.args.delta f)
