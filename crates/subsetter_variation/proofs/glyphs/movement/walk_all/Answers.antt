use Rattle.std.proofs.lemmas.Result.{err_from_is_err_and}
use Rattle.std.proofs.Common.{ap, ◌+◌, ◌*◌, ◌^◌, subst, sym, ◌∙◌, arith}
use Rattle.std.specs.Option.{option_map}
use Rattle.subsetter_variation.specs.Glyphs.Movement.{IsWithin, walk_all}
use Rattle.subsetter_variation.proofs.GlyphsLaws.Walks.{walk_fails, walk_step}
use Rattle.subsetter_variation.proofs.glyphs.movement.walk_all.Goals as goal

pub loop-i-preserved : goal.loop-i-preserved
loop-i-preserved c = record {
  read = sym (walk_step c.args.t.now c.args.o.now (option_map (λ x. x.items) c.args.shared.now) c.args.at.now c.left-count.result c.loop-i.i c.loop-i.w c.in_ok-w.w c.loop-i-test.true c.in_ok-w.ensures.value) ∙ c.loop-i.invariant.read;
  bound = subst (λ n. IsWithin n c.args.o.now c.in_ok-w.w) (omega arith) (c.in_ok-w.ensures.bound (2 ^ 45 * (c.loop-i.i + 1)) c.loop-i.invariant.bound);
}

pub returns-in_err-w-clause-value : goal.returns-in_err-w-clause-value
returns-in_err-w-clause-value c =
    let p = err_from_is_err_and c.from_residual.result c.from_residual.ensures.1 in
    let same = c.loop-i.invariant.read ∙ ap (λ n. walk_all c.args.t.now c.args.o.now (option_map (λ x. x.items) c.args.shared.now) c.args.at.now n c.args.w) c.left-count.ensures in
    rw (p.1, p.2) (walk_fails c.args.t.now c.args.o.now (option_map (λ x. x.items) c.args.shared.now) c.args.at.now c.left-count.result c.loop-i.i c.loop-i.w _ _ c.loop-i-test.true same c.in_err-w.ensures.value)
