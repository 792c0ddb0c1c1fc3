use Rattle.std.proofs.Common.{◌≡◌, List, ℤ, ap, sym, ◌∙◌, rules, w16, to_z, of_z}
use Rattle.std.proofs.lemmas.Int.{to_z-of_z}
use mir.Val.{SFits}
use Rattle.subsetter_variation.specs.Locations.Segments.{axis_value_maps, counting, counting_from, keeps, topmost}
use Rattle.subsetter_variation.specs.declared.locations.segments.AxisValueMap.{AxisValueMap}
use Rattle.subsetter_variation.proofs.LocationsLaws.Counting.{kept_here, kept_later}
use Rattle.subsetter_variation.proofs.locations.segments.keeps.Goals as goal

pub returns-then-counts_and_stays : goal.returns-then-counts_and_stays
returns-then-counts_and_stays c =
    let ends = axis_value_maps c.args.ends.now in
    let p = c.loop-q.passed in
    let z : ℤ = to_z w16 (of_z w16 c.args.number) in
    let fits : SFits w16 c.args.number = search rules in
    kept_here z p.top p.last c.in-Some-q.q (axis_value_maps c.next-in-loop-q.new.self) (keeps z (counting ends)) (sym c.counts_and_stays.ensures ∙ c.if-counts_and_stays.true)
    (ap (λ (l : List AxisValueMap). keeps z (counting_from p.top p.last l)) (sym c.in-Some-q.ensures.steps) ∙ c.loop-q.invariant)
    ∙ ap (λ y. keeps y (counting ends)) (to_z-of_z w16 c.args.number fits)

pub loop-q-preserved : goal.loop-q-preserved
loop-q-preserved c =
    let ends = axis_value_maps c.args.ends.now in
    let p = c.loop-q.passed in
    let z : ℤ = to_z w16 (of_z w16 c.args.number) in
    let next = c.with_end-passed.result in
    let left = axis_value_maps c.next-in-loop-q.new.self in
    let later =
    kept_later z p.top p.last c.in-Some-q.q left (keeps z (counting ends)) (sym c.counts_and_stays.ensures ∙ c.if-counts_and_stays.false)
    (ap (λ (l : List AxisValueMap). keeps z (counting_from p.top p.last l)) (sym c.in-Some-q.ensures.steps) ∙ c.loop-q.invariant) in
    ap (λ t. keeps z (counting_from t next.last left)) c.with_end-passed.ensures.top ∙ ap (λ e. keeps z (counting_from (topmost p.top c.in-Some-q.q) e left)) c.with_end-passed.ensures.last ∙ later
