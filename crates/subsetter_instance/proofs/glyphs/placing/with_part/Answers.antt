use Rattle.std.proofs.Common.{◌≡◌, ◌≤◌, ◌^◌, ℕ, ℤ, List, length, w64, to_z, of_z, unsigned_abs, subst, sym, ap, ◌∙◌, arith, rules}
use Rattle.std.specs.Prelude.{All}
use Rattle.subsetter_instance.specs.Glyphs.Unfolded.{Unfolded}
use Rattle.subsetter_instance.proofs.GlyphsLaws.Reach.{kept, wider_47}
use Rattle.subsetter_instance.proofs.GlyphsLaws.PartLemmas.{plain_part, turned_part}
use Rattle.subsetter_instance.proofs.glyphs.placing.with_part.Goals as goal

pub returns-in-None-clause-value : goal.returns-in-None-clause-value
returns-in-None-clause-value c =
    let xs = c.deref.ensures.value ∙ ap (λ (u : Unfolded). u.xs) c.part.view_is in
    let ys = c.deref-in-None.ensures.value ∙ ap (λ (u : Unfolded). u.ys) c.part.view_is in
    rw (plain_part c.args.component c.args.x c.args.y c.args.before c.args.part.now c.args.steps c.in-None.is, sym xs, sym ys) (search rules)

pub returns-in_ok-ys-in-Some-clause-value : goal.returns-in_ok-ys-in-Some-clause-value
returns-in_ok-ys-in-Some-clause-value c = rw (turned_part c.args.component c.in-Some.m c.swapped.result c.args.x c.args.y c.args.before c.args.part.now c.args.steps c.in-Some.is c.swapped.ensures) (search rules)

wide : (z : ℤ) → unsigned_abs z ≤ 2 ^ 57 → unsigned_abs (to_z w64 (of_z w64 z)) ≤ 2 ^ 57
wide z h = omega (arith, h, ap unsigned_abs (kept z (omega (arith, h))))

within : (n : ℕ) (xs ys : List ℤ) → xs ≡ ys → All (λ v. unsigned_abs v ≤ n) ys → All (λ v. unsigned_abs v ≤ n) xs
within n xs ys same h = subst (λ (l : List ℤ). All (λ v. unsigned_abs v ≤ n) l) (sym same) h

pub with_points-requires : goal.with_points-requires
with_points-requires c =
    let part = c.args.part.now in
    let xs : c.deref.result.now ≡ part.xs = c.deref.ensures.value ∙ ap (λ (u : Unfolded). u.xs) c.part.view_is in
    let ys : c.deref-in-None.result.now ≡ part.ys = c.deref-in-None.ensures.value ∙ ap (λ (u : Unfolded). u.ys) c.part.view_is in
    record {
      x = wide c.args.x c.requires.x;
      y = wide c.args.y c.requires.y;
      xs = within (2 ^ 47) _ part.xs xs (wider_47 part.xs c.requires.part.xs);
      ys = within (2 ^ 47) _ part.ys ys (wider_47 part.ys c.requires.part.ys);
      before = c.requires.before;
      part = c.requires.part;
      many_xs = ap length xs ∙ c.requires.part.shape.xs;
      many_ys = ap length ys ∙ c.requires.part.shape.ys;
    }

pub with_points-requires-in-Some : goal.with_points-requires-in-Some
with_points-requires-in-Some c =
    let part = c.args.part.now in
    let xs : c.deref-in-Some.result.now ≡ part.xs = c.deref-in-Some.ensures.value ∙ ap (λ (u : Unfolded). u.xs) c.part.view_is in
    let again : c.deref-in-Some-3.result.now ≡ part.xs = c.deref-in-Some-3.ensures.value ∙ ap (λ (u : Unfolded). u.xs) c.part.view_is in
    record {
      x = wide c.args.x c.requires.x;
      y = wide c.args.y c.requires.y;
      xs = within (2 ^ 47) _ _ c.deref-in-Some-5.ensures.value c.in_ok-xs-in-Some.ensures.bound;
      ys = within (2 ^ 47) _ _ c.deref-in-Some-6.ensures.value c.in_ok-ys-in-Some.ensures.bound;
      before = c.requires.before;
      part = c.requires.part;
      many_xs = ap length c.deref-in-Some-5.ensures.value ∙ c.in_ok-xs-in-Some.ensures.len ∙ ap length xs ∙ c.requires.part.shape.xs;
      many_ys = ap length c.deref-in-Some-6.ensures.value ∙ c.in_ok-ys-in-Some.ensures.len ∙ ap length again ∙ c.requires.part.shape.xs;
    }

pub transformed_column-requires : goal.transformed_column-requires
transformed_column-requires c =
    let part = c.args.part.now in
    let xs : c.deref-in-Some.result.now ≡ part.xs = c.deref-in-Some.ensures.value ∙ ap (λ (u : Unfolded). u.xs) c.part.view_is in
    let ys : c.deref-in-Some-2.result.now ≡ part.ys = c.deref-in-Some-2.ensures.value ∙ ap (λ (u : Unfolded). u.ys) c.part.view_is in
    record {
      same = ap length ys ∙ c.requires.part.shape.ys ∙ sym (ap length xs ∙ c.requires.part.shape.xs);
      xs = within (2 ^ 45) _ part.xs xs c.requires.part.xs;
      ys = within (2 ^ 45) _ part.ys ys c.requires.part.ys;
    }

pub transformed_column-requires-in-Some : goal.transformed_column-requires-in-Some
transformed_column-requires-in-Some c =
    let part = c.args.part.now in
    let xs : c.deref-in-Some-3.result.now ≡ part.xs = c.deref-in-Some-3.ensures.value ∙ ap (λ (u : Unfolded). u.xs) c.part.view_is in
    let ys : c.deref-in-Some-4.result.now ≡ part.ys = c.deref-in-Some-4.ensures.value ∙ ap (λ (u : Unfolded). u.ys) c.part.view_is in
    record {
      same = ap length ys ∙ c.requires.part.shape.ys ∙ sym (ap length xs ∙ c.requires.part.shape.xs);
      xs = within (2 ^ 45) _ part.xs xs c.requires.part.xs;
      ys = within (2 ^ 45) _ part.ys ys c.requires.part.ys;
    }

pub returns-in-None-clause-bound : goal.returns-in-None-clause-bound
returns-in-None-clause-bound c = c.with_points.ensures.bound

pub returns-in_ok-ys-in-Some-clause-bound : goal.returns-in_ok-ys-in-Some-clause-bound
returns-in_ok-ys-in-Some-clause-bound c = c.with_points-in-Some.ensures.bound
