use Rattle.std.proofs.Common.{◌+◌, ◌<◌, ◌≤◌, ◌^◌, ◌+ℤ◌, length, get_or, arith, pos, ap, subst, sym, ◌∙◌, unsigned_abs, All, FitsSigned, w64}
use Rattle.std.specs.Option.{option_map}
use Rattle.std.proofs.lemmas.List.FromFn.{fill_by_all, length-map-range_with_len}
use Rattle.std.proofs.lemmas.List.Elements.{All-from_get_or, All-get_or}
use Rattle.std.proofs.lemmas.Int.{to_z-of_z}
use Rattle.subsetter_variation.specs.Glyphs.Varied.{AreEnds, deltas_by_point, points, moved_in}
use Rattle.subsetter_variation.proofs.GlyphsLaws.Sums.{all_written, length_points, one_more, same_moves}
use Rattle.subsetter_variation.proofs.glyphs.varied.added.Goals as goal

pub add_tuple-requires-clause-same : goal.add_tuple-requires-clause-same
add_tuple-requires-clause-same c =
    let points_are = c.deref.ensures.value ∙ c.in_ok-points.ensures in
    ap length c.deref_mut.ensures.value ∙ c.requires.same ∙ sym (ap length points_are ∙ length_points c.args.coordinates.now _ (length-map-range_with_len _ 0 _))

pub add_tuple-requires-clause-ends : goal.add_tuple-requires-clause-ends
add_tuple-requires-clause-ends c =
    let points_are = c.deref.ensures.value ∙ c.in_ok-points.ensures in
    subst (λ n. AreEnds 0 c.args.ends.now n) (sym (ap length points_are ∙ length_points c.args.coordinates.now _ (length-map-range_with_len _ 0 _))) c.requires.ends

pub returns-clause-value : goal.returns-clause-value
returns-clause-value c =
    let points_are = c.deref.ensures.value ∙ c.in_ok-points.ensures in
    let long = ap length points_are ∙ length_points c.args.coordinates.now _ (length-map-range_with_len _ 0 _) in
    let f : FitsSigned w64 c.args.scalar = c.ranges.scalar in
    let fits = to_z-of_z w64 c.args.scalar f in
    let len = c.add_tuple.auto.sums ∙ ap length c.deref_mut.ensures.value in
    all_written c.args.sums.len c.args.sums.items c.add_tuple.new.sums (c.add_tuple.auto.sums ∙ c.deref_mut.ensures.len)
    ∙ fill_by_all (λ k. get_or c.args.sums.items k (pos 0) +ℤ moved_in (points c.args.coordinates.now (deltas_by_point (length c.args.coordinates.now) (option_map (λ x. x.items) c.args.numbers.now) c.args.deltas.now)) 0 c.args.ends.now k c.args.scalar) c.add_tuple.new.sums (length c.args.sums.items) (pos 0) len (λ k h.
    same_moves c.args.sums.items c.deref_mut.result.now c.deref.result.now (points c.args.coordinates.now (deltas_by_point (length c.args.coordinates.now) (option_map (λ x. x.items) c.args.numbers.now) c.args.deltas.now)) c.args.ends.now k _ c.args.scalar (get_or c.add_tuple.new.sums k (pos 0)) c.deref_mut.ensures.value points_are fits (c.add_tuple.ensures.added k (omega (arith, long, c.requires.same))))

pub returns-clause-count : goal.returns-clause-count
returns-clause-count c =
    ap length (all_written c.args.sums.len c.args.sums.items c.add_tuple.new.sums (c.add_tuple.auto.sums ∙ c.deref_mut.ensures.len))
    ∙ c.add_tuple.auto.sums ∙ ap length c.deref_mut.ensures.value

pub returns-clause-bound : goal.returns-clause-bound
returns-clause-bound c b h =
    let points_are = c.deref.ensures.value ∙ c.in_ok-points.ensures in
    let long = ap length points_are ∙ length_points c.args.coordinates.now _ (length-map-range_with_len _ 0 _) in
    let len = c.add_tuple.auto.sums ∙ ap length c.deref_mut.ensures.value in
    subst (λ xs. All (λ z. unsigned_abs z ≤ b + 2 ^ 45) xs) (sym (all_written c.args.sums.len c.args.sums.items c.add_tuple.new.sums (c.add_tuple.auto.sums ∙ c.deref_mut.ensures.len)))
    (All-from_get_or (λ z. unsigned_abs z ≤ b + 2 ^ 45) c.add_tuple.new.sums (pos 0) (λ k lt.
    let inside : k < length c.deref.result.now = omega (arith, long, len, c.requires.same) in
    let before : unsigned_abs (get_or c.deref_mut.result.now k (pos 0)) ≤ b = subst (λ xs. unsigned_abs (get_or xs k (pos 0)) ≤ b) (sym c.deref_mut.ensures.value) (All-get_or (λ z. unsigned_abs z ≤ b) c.args.sums.items k (pos 0) (omega (arith, len)) h) in
    one_more (get_or c.deref_mut.result.now k (pos 0)) _ (get_or c.add_tuple.new.sums k (pos 0)) b (2 ^ 45) (c.add_tuple.ensures.added k inside) before (c.add_tuple.ensures.bound k inside)))
