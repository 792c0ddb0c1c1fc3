use Rattle.std.proofs.Common.{◌≡◌, ◌++◌, ◌<◌, ◌≤◌, ◌^◌, ◌*ℤ◌, pos, length, take, drop, map, subst, sym, ◌∙◌, arith, unsigned_abs, All}
use Rattle.std.proofs.lemmas.List.{ext_get_or, get_or-map, length-map}
use Rattle.std.proofs.lemmas.List.Elements.{All-from_get_or}
use Rattle.subsetter_variation.proofs.GlyphsLaws.Sums.{all_written}
use Rattle.subsetter_variation.proofs.glyphs.varied.in_units.Goals as goal

written : (c : goal.After-sums-3-1) → take c.in_ok-sums.sums.len (c.write_units.new.sums ++ drop (length c.write_units.new.sums) c.in_ok-sums.sums.items) ≡ c.write_units.new.sums
written c = all_written c.in_ok-sums.sums.len c.in_ok-sums.sums.items c.write_units.new.sums (c.write_units.auto.sums ∙ c.deref_mut.ensures.len)

many : (c : goal.After-sums-3-1) → length c.write_units.new.sums ≡ length c.args.coordinates.now
many c = c.write_units.auto.sums ∙ c.deref_mut.ensures.len ∙ c.in_ok-sums.ensures.len

pub returns-clause-value : goal.returns-clause-value
returns-clause-value c =
    written c
    ∙ ext_get_or (pos 0) c.write_units.new.sums (map (λ x. pos (2 ^ 30) *ℤ x) c.args.coordinates.now) (many c ∙ sym (length-map c.args.coordinates.now (λ x. pos (2 ^ 30) *ℤ x))) (λ i h.
    let inside : i < length c.args.coordinates.now = omega (arith, many c) in
    c.write_units.ensures.value i inside ∙ sym (get_or-map (λ x. pos (2 ^ 30) *ℤ x) c.args.coordinates.now i (pos 0) (pos 0) inside))

pub returns-clause-bound : goal.returns-clause-bound
returns-clause-bound c =
    subst (λ xs. All (λ x. unsigned_abs x ≤ 2 ^ 45) xs) (sym (written c))
    (All-from_get_or (λ x. unsigned_abs x ≤ 2 ^ 45) c.write_units.new.sums (pos 0) (λ i h. c.write_units.ensures.bound i (omega (arith, many c))))
