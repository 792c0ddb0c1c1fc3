use Rattle.std.proofs.lemmas.Int.{to_z-of_z}
use Rattle.std.proofs.Common.{FitsSigned, w16, pos, rules, cond, nat_eq, ◌+◌, ◌≡◌, None, Some, Option, ℤ, length, get_or, drop, sym, ◌∙◌, ap, arith, inl, inr}
use Rattle.std.proofs.lemmas.Bool.{cases_lt}
use Rattle.std.proofs.lemmas.List.FromFn.{fill_by_all}
use Rattle.subsetter_variation.specs.Glyphs.Varied.{ats_of, deltas_by_point, deltas_of, delta_of, listed_delta, points}
use Rattle.subsetter_variation.proofs.Touching.{ats_untouched, many_deltas, none_untouched, points_again}
use Rattle.subsetter_variation.proofs.PackingLaws.ListedDeltas.{listed_more, listed_end, listed_end_numbers, set_step}
use Rattle.subsetter_variation.proofs.glyphs.varied.listed_points.Goals as goal

pub loop-i-init : goal.loop-i-init
loop-i-init c = record {
  at = ap ats_of c.in_ok-points.ensures ∙ ats_untouched c.args.coordinates.now;
  read = λ k lt. ap (λ ps. listed_delta (get_or (deltas_of ps) k None) c.args.numbers.now c.args.deltas.now k) c.in_ok-points.ensures ∙ ap (λ (o : Option ℤ). listed_delta o c.args.numbers.now c.args.deltas.now k) (none_untouched c.args.coordinates.now k);
}

pub loop-i-preserved : goal.loop-i-preserved
loop-i-preserved c =
    let f : FitsSigned w16 (get_or c.args.deltas.now c.loop-i.i (pos 0)) = search rules in
    let e = to_z-of_z w16 (get_or c.args.deltas.now c.loop-i.i (pos 0)) f in
    let many = many_deltas c.loop-i.points.items c.args.coordinates.now c.loop-i.invariant.at in
    record {
      at = c.with_delta-points.ensures.at ∙ c.loop-i.invariant.at;
      read = λ k lt.
          ap (λ found. listed_delta found (drop (c.loop-i.i + 1) c.args.numbers.now) (drop (c.loop-i.i + 1) c.args.deltas.now) k) (set_step (deltas_of c.loop-i.points.items) (deltas_of c.with_delta-points.result.items) (get_or c.args.numbers.now c.loop-i.i 0) _ k (omega (arith, many)) c.with_delta-points.ensures.delta)
          ∙ ap (λ d. listed_delta (cond (nat_eq (get_or c.args.numbers.now c.loop-i.i 0) k) (Some d) (get_or (deltas_of c.loop-i.points.items) k None)) (drop (c.loop-i.i + 1) c.args.numbers.now) (drop (c.loop-i.i + 1) c.args.deltas.now) k) e
          ∙ sym (listed_more (get_or (deltas_of c.loop-i.points.items) k None) c.args.numbers.now c.args.deltas.now c.loop-i.i k (omega arith) (omega arith))
          ∙ c.loop-i.invariant.read k lt;
    }

pub returns : goal.returns
returns c =
    let ps = c.loop-i.points.items in
    let cs = c.args.coordinates.now in
    let given : deltas_of ps ≡ deltas_by_point (length cs) (Some c.args.numbers.now) c.args.deltas.now = fill_by_all (delta_of (Some c.args.numbers.now) c.args.deltas.now) (deltas_of ps) (length cs) None (many_deltas ps cs c.loop-i.invariant.at) (λ k lt.
    sym (elim (cases_lt c.loop-i.i (length c.args.numbers.now)) [
      | inl h ↦ listed_end (get_or (deltas_of ps) k None) c.args.numbers.now c.args.deltas.now c.loop-i.i k (omega arith)
      | inr h ↦ listed_end_numbers (get_or (deltas_of ps) k None) c.args.numbers.now c.args.deltas.now c.loop-i.i k h
    ]) ∙ c.loop-i.invariant.read k lt) in
    sym (points_again ps) ∙ ap (λ xs. points xs (deltas_of ps)) c.loop-i.invariant.at ∙ ap (points cs) given
