use Rattle.std.proofs.Common.{◌≡◌, ◌+◌, ◌≤◌, ◌^◌, ◌++◌, take, drop, Some, length, ap, subst, sym, ◌∙◌, unsigned_abs, All, FitsSigned, w64}
use Rattle.std.proofs.lemmas.Int.{to_z-of_z}
use Rattle.subsetter_variation.proofs.GlyphsLaws.Given.{added_here, all_within}
use Rattle.subsetter_variation.proofs.GlyphsLaws.Sums.{all_written}
use Rattle.subsetter_variation.proofs.glyphs.varied.added_to_each.Goals as goal

written : (c : goal.In_ok-rest) → take c.args.sums.len (c.add_deltas.new.sums ++ drop (length c.add_deltas.new.sums) c.args.sums.items) ≡ c.add_deltas.new.sums
written c = all_written c.args.sums.len c.args.sums.items c.add_deltas.new.sums (c.add_deltas.auto.sums ∙ c.deref_mut.ensures.len)

pub returns-clause-value : goal.returns-clause-value
returns-clause-value c =
    let f : FitsSigned w64 c.args.scalar = c.ranges.scalar in
    added_here c.args.coordinates.now c.args.ends.now c.args.bytes.now _ c.args.scalar c.args.sums.items c.deref_mut.result.now c.add_deltas.new.sums c.in_ok-rest.rest.now c.deref_mut.ensures.value (to_z-of_z w64 c.args.scalar f) c.requires.ends c.requires.same c.add_deltas.auto.sums c.in_ok-rest.ensures.rest c.in_ok-rest.ensures.added
    ∙ ap (λ xs. Some (xs, c.in_ok-rest.rest.now)) (sym (written c))

pub returns-clause-count : goal.returns-clause-count
returns-clause-count c = ap length (written c) ∙ c.add_deltas.auto.sums ∙ ap length c.deref_mut.ensures.value

pub returns-clause-bound : goal.returns-clause-bound
returns-clause-bound c b h =
    subst (λ xs. All (λ z. unsigned_abs z ≤ b + 2 ^ 45) xs) (sym (written c))
    (all_within _ c.deref_mut.result.now c.add_deltas.new.sums b c.in_ok-rest.rest.now _ c.add_deltas.auto.sums c.in_ok-rest.ensures.rest c.in_ok-rest.ensures.added c.in_ok-rest.ensures.bound (subst (λ xs. All (λ z. unsigned_abs z ≤ b) xs) (sym c.deref_mut.ensures.value) h))
