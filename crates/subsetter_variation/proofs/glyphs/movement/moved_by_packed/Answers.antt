use Rattle.std.proofs.Common.{◌+◌, ◌^◌, ◌∙◌, None, option_map, ap, sym, subst, IfOk, length, FitsSigned, w64}
use Rattle.std.specs.Option.{ok_or}
use Rattle.std.proofs.lemmas.Int.{to_z-of_z}
use Rattle.subsetter_base.specs.declared.error.Error.TheVariants.{MalformedFont}
use Rattle.subsetter_variation.specs.Glyphs.Tuples.{both_deltas}
use Rattle.subsetter_variation.specs.Glyphs.Movement.{IsWithin, moved_by}
use Rattle.subsetter_variation.proofs.GlyphsLaws.Counted.{gives_same, if_ok}
use Rattle.subsetter_variation.proofs.glyphs.movement.moved_by_packed.Goals as goal

pub returns-in-None-clause-value : goal.returns-in-None-clause-value
returns-in-None-clause-value c =
    let f : FitsSigned w64 c.args.scalar = c.ranges.scalar in
    rw c.in-None.is (gives_same _ _ (c.ok_or.ensures.value ∙ ap (λ o. ok_or o MalformedFont) (c.moved_by_each.ensures.value ∙ ap (λ s. option_map (λ d. moved_by c.args.o.now s None d.0 d.1 c.args.left c.args.w) (both_deltas (length c.args.o.now.xs) c.args.bytes.now)) (to_z-of_z w64 c.args.scalar f))))

pub returns-in-None-clause-bound : goal.returns-in-None-clause-bound
returns-in-None-clause-bound c b h = subst (λ r. IfOk r (λ v. IsWithin (b + 2 ^ 45) c.args.o.now v)) (sym c.ok_or.ensures.value) (if_ok (λ v. IsWithin (b + 2 ^ 45) c.args.o.now v) c.moved_by_each.result MalformedFont (c.moved_by_each.ensures.bound b h))

pub returns-in_ok-moved-in-Some-clause-bound : goal.returns-in_ok-moved-in-Some-clause-bound
returns-in_ok-moved-in-Some-clause-bound c b h = c.in_ok-moved-in-Some.ensures.bound b h
