use Rattle.std.proofs.Common.{◌+◌, sym, subst, ap, ◌∙◌, rules, length, length-append, FitsSigned, w64, to_z, of_z}
use Rattle.std.proofs.lemmas.Int.{to_z-of_z}
use Rattle.subsetter_variation.specs.Glyphs.SharedScalars.{AreSharedScalars, IsSharedScalar}
use Rattle.subsetter_variation.proofs.GlyphsLaws.SharedTuples.{scalars_more}
use Rattle.subsetter_variation.proofs.glyphs.tuples.Gvar.shared_scalars.Goals as goal

pub loop-index-preserved : goal.loop-index-preserved
loop-index-preserved c =
    let items = c.in_ok-push.ensures.items in
    let f : FitsSigned w64 c.in-Some.scalar = search rules in
    let e = to_z-of_z w64 c.in-Some.scalar f in
    let here = subst (IsSharedScalar c.args.self.now c.args.at.now c.loop-index.index) (sym e) c.in-Some.ensures in
    record {
      count = ap length items ∙ length-append c.loop-index.scalars.items _ ∙ ap (λ n. n + 1) c.loop-index.invariant.count;
      right = subst (AreSharedScalars c.args.self.now c.args.at.now) (sym items) (scalars_more c.args.self.now c.args.at.now c.loop-index.scalars.items (to_z w64 (of_z w64 c.in-Some.scalar)) c.loop-index.index c.loop-index.invariant.count c.loop-index.invariant.right here);
    }
