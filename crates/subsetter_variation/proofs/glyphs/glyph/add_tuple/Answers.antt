use Rattle.std.proofs.Common.{◌≡◌, ℕ, ◌+◌, ◌-◌, ◌<◌, ◌≤◌, ◌^◌, ◌+ℤ◌, ℤ, length, get_or, arith, pos, ap, subst, sym, ◌∙◌, unsigned_abs, w64, to_z, of_z, drop, take, FitsSigned, inl, inr}
use Rattle.std.proofs.lemmas.Bool.{cases_lt}
use Rattle.std.proofs.lemmas.Int.{to_z-of_z}
use borrow.Rule.Slice.PartMut.{put_mid}
use Rattle.subsetter_variation.specs.Glyphs.Inferred.{moved}
use Rattle.subsetter_variation.specs.Glyphs.Varied.{AreEnds, moved_in}
use Rattle.subsetter_variation.proofs.GlyphsLaws.Contours.{next_end, all_ends, within, beyond, mid_below, mid_at, mid_above, part_at, length_part}
use Rattle.subsetter_variation.proofs.glyphs.glyph.add_tuple.Goals as goal

pub returns-clause-bound : goal.returns-clause-bound
returns-clause-bound c k h =
    let e = all_ends c.loop-end.start (length c.args.points.now) c.loop-end.end-index c.args.ends.now (omega arith) c.loop-end.invariant.left in
    let b = c.loop-end.invariant.bound k (omega arith) in
    let f : FitsSigned w64 c.args.scalar = c.ranges.scalar in
    simp to_z-of_z at b

-- the contour that the loop is at
end_of : goal.After-sums-1 → ℕ
end_of c = get_or c.args.ends.now c.loop-end.end-index 0

scalar_of : goal.After-sums-1 → ℤ
scalar_of c = to_z w64 (of_z w64 c.args.scalar)

next : (c : goal.After-sums-1) → (c.loop-end.start ≤ end_of c) × (end_of c < length c.args.points.now) × AreEnds (end_of c + 1) (drop (c.loop-end.end-index + 1) c.args.ends.now) (length c.args.points.now)
unfolding end_of
next c = next_end c.loop-end.start (length c.args.points.now) c.loop-end.end-index c.args.ends.now (omega arith) c.loop-end.invariant.left

long : (c : goal.After-sums-1) → length c.add_contour.new.sums ≡ end_of c + 1 - c.loop-end.start
unfolding end_of
long c = let n = next c in c.add_contour.auto.sums ∙ length_part c.loop-end.sums c.loop-end.start (end_of c + 1) (omega arith) (omega (arith, c.loop-end.auto.sums))

here : (c : goal.After-sums-1) (k : ℕ) → c.loop-end.start ≤ k → k < end_of c + 1 → moved_in c.args.points.now 0 c.args.ends.now k (scalar_of c) ≡ moved (take (end_of c + 1 - c.loop-end.start) (drop c.loop-end.start c.args.points.now)) (k - c.loop-end.start) (scalar_of c)
unfolding end_of scalar_of
here c k h l = c.loop-end.invariant.others k h ∙ within c.args.points.now c.loop-end.start c.loop-end.end-index c.args.ends.now k (scalar_of c) (omega arith) (omega arith)

inside : (c : goal.After-sums-1) (k : ℕ) → c.loop-end.start ≤ k → k < end_of c + 1 → k - c.loop-end.start < length (take (end_of c + 1 - c.loop-end.start) (drop c.loop-end.start c.args.points.now))
inside c k h l = let n = next c in omega (arith, length_part c.args.points.now c.loop-end.start (end_of c + 1) (omega arith) (omega arith))

added_here : (c : goal.After-sums-1) (k : ℕ) → c.loop-end.start ≤ k → k < end_of c + 1 → get_or (put_mid c.loop-end.start (end_of c + 1 - c.loop-end.start) c.loop-end.sums c.add_contour.new.sums) k (pos 0) ≡ get_or c.args.sums.now k (pos 0) +ℤ moved_in c.args.points.now 0 c.args.ends.now k (scalar_of c)
unfolding end_of scalar_of
added_here c k h l =
    let n = next c in
    let w = end_of c + 1 - c.loop-end.start in
    mid_at c.loop-end.start w c.loop-end.sums c.add_contour.new.sums k h (omega (arith, long c)) (omega (arith, c.loop-end.auto.sums))
    ∙ c.add_contour.ensures.added (k - c.loop-end.start) (inside c k h l)
    ∙ ap (λ z. z +ℤ moved (take w (drop c.loop-end.start c.args.points.now)) (k - c.loop-end.start) (scalar_of c)) (part_at c.loop-end.sums c.loop-end.start w k h (omega arith) ∙ c.loop-end.invariant.rest k h)
    ∙ ap (λ m. get_or c.args.sums.now k (pos 0) +ℤ m) (sym (here c k h l))

bound_here : (c : goal.After-sums-1) (k : ℕ) → c.loop-end.start ≤ k → k < end_of c + 1 → unsigned_abs (moved_in c.args.points.now 0 c.args.ends.now k (scalar_of c)) ≤ 2 ^ 45
unfolding end_of scalar_of
bound_here c k h l = subst (λ z. unsigned_abs z ≤ 2 ^ 45) (sym (here c k h l)) (c.add_contour.ensures.bound (k - c.loop-end.start) (inside c k h l))

pub loop-end-preserved : goal.loop-end-preserved
unfolding end_of scalar_of
loop-end-preserved c =
    let n = next c in
    let start = c.loop-end.start in
    let w = end_of c + 1 - start in
    let u : start ≤ length c.loop-end.sums = omega (arith, c.loop-end.auto.sums) in
    record {
      left = n.2;
      others = λ k h. c.loop-end.invariant.others k (omega arith) ∙ beyond c.args.points.now start c.loop-end.end-index c.args.ends.now k (scalar_of c) (omega arith) h;
      added = λ k l. elim (cases_lt k start) [
        | inl h ↦ mid_below start w c.loop-end.sums c.add_contour.new.sums k h u ∙ c.loop-end.invariant.added k h
        | inr h ↦ added_here c k h l
      ];
      bound = λ k l. elim (cases_lt k start) [ inl h ↦ c.loop-end.invariant.bound k h | inr h ↦ bound_here c k h l ];
      rest = λ k h. mid_above start w c.loop-end.sums c.add_contour.new.sums k (long c) (omega arith) u ∙ c.loop-end.invariant.rest k (omega arith);
    }
