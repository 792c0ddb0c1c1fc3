use Rattle.std.proofs.Common.{◌≡◌, List, ℤ, ap, sym, ◌∙◌, rules, w64, to_z, of_z}
use Rattle.std.proofs.lemmas.Int.{to_z-of_z}
use mir.Val.{SFits}
use Rattle.subsetter_variation.specs.Locations.Segments.{axis_value_maps, by_segments, counting, counting_from, mapped_from, topmost}
use Rattle.subsetter_variation.specs.declared.locations.segments.AxisValueMap.{AxisValueMap}
use Rattle.subsetter_variation.proofs.LocationsLaws.Counting.{mapped_here, mapped_later}
use Rattle.subsetter_variation.proofs.locations.segments.by_segments.Goals as goal

pub returns-then-counts_and_is_on-clause-value : goal.returns-then-counts_and_is_on-clause-value
returns-then-counts_and_is_on-clause-value c =
    let ends = axis_value_maps c.args.ends in
    let p = c.loop-q.passed in
    let z : ℤ = to_z w64 (of_z w64 c.args.n) in
    let fits : SFits w64 c.on_segment.result = search rules in
    let whole : SFits w64 c.args.n = search rules in
    to_z-of_z w64 c.on_segment.result fits ∙ c.on_segment.ensures.value
    ∙ mapped_here z p.top p.last c.in-Some-q.q (axis_value_maps c.next-in-loop-q.new.self) (by_segments (counting ends) z) (sym c.counts_and_is_on.ensures.value ∙ c.if-counts_and_is_on.true)
    (ap (λ (l : List AxisValueMap). mapped_from p.last (counting_from p.top p.last l) z) (sym c.in-Some-q.ensures.steps) ∙ c.loop-q.invariant)
    ∙ ap (λ y. by_segments (counting ends) y) (to_z-of_z w64 c.args.n whole)

pub loop-q-preserved : goal.loop-q-preserved
loop-q-preserved c =
    let ends = axis_value_maps c.args.ends in
    let p = c.loop-q.passed in
    let z : ℤ = to_z w64 (of_z w64 c.args.n) in
    let next = c.with_end-passed.result in
    let left = axis_value_maps c.next-in-loop-q.new.self in
    let later =
    mapped_later z p.top p.last c.in-Some-q.q left (by_segments (counting ends) z) (sym c.counts_and_is_on.ensures.value ∙ c.if-counts_and_is_on.false)
    (ap (λ (l : List AxisValueMap). mapped_from p.last (counting_from p.top p.last l) z) (sym c.in-Some-q.ensures.steps) ∙ c.loop-q.invariant) in
    ap (λ t. mapped_from next.last (counting_from t next.last left) z) c.with_end-passed.ensures.top
    ∙ ap (λ e. mapped_from e (counting_from (topmost p.top c.in-Some-q.q) e left) z) c.with_end-passed.ensures.last ∙ later
