use Rattle.std.proofs.Common.{FitsSigned, w64}
use Rattle.std.proofs.lemmas.Int.{to_z-of_z}
use Rattle.subsetter_variation.proofs.LocationsLaws.Bounds.{sum_of}
use Rattle.subsetter_variation.proofs.glyphs.inference.blend.Goals as goal

pub returns-clause-value : goal.returns-clause-value
returns-clause-value c =
    let l : FitsSigned w64 c.args.low = c.ranges.low in
    let o : FitsSigned w64 c.args.over = c.ranges.over in
    let h : FitsSigned w64 c.args.high = c.ranges.high in
    let u : FitsSigned w64 c.args.under = c.ranges.under in
    let first = simp to_z-of_z at c.delta_times_distance-first.ensures.value in
    let second = simp to_z-of_z at c.delta_times_distance-second.ensures.value in
    sum_of _ _ _ _ c.delta_times_distance-first.ensures.bound c.delta_times_distance-second.ensures.bound first second
