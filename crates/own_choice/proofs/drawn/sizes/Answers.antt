use Rattle.std.proofs.Common.{◌≡◌, ℕ, ◌+◌, ◌-◌, suc, ◌++◌, ap, ◌∙◌, arith}
use Rattle.subsetter_instance.specs.Glyphs.Drawn.{drawn}
use Rattle.text_metrics.specs.Ink.{each_from}
use Rattle.text_metrics.proofs.Each.{each_done, each_more}
use Rattle.own_choice.specs.Parts.{size_of, sizes}
use Rattle.own_choice.specs.declared.drawn.Size.{Size}
use Rattle.own_choice.proofs.drawn.sizes.Goals as goal

pub loop-glyph-preserved : goal.loop-glyph-preserved
loop-glyph-preserved c =
    let f : ℕ → Size = λ g. size_of (drawn c.args.source.now c.args.at.now c.args.steps g) in
    let g = c.loop-glyph.glyph in
    let m = c.args.count - (g + 1) in
    let step : c.args.count - g ≡ suc m = omega arith in
    record {
      value = ap (λ l. l ++ each_from f (g + 1) m) c.in_ok-push.ensures.items ∙ each_more f c.loop-glyph.all.items (sizes c.args.source.now c.args.at.now c.args.steps c.args.count) _ g (c.args.count - g) m step c.in_ok-size.ensures.value c.loop-glyph.invariant.value;
      kept = c.in_ok-size.ensures.kept;
    }

pub returns-clause-ok : goal.returns-clause-ok
returns-clause-ok c =
    let g = c.loop-glyph.glyph in
    each_done (λ k. size_of (drawn c.args.source.now c.args.at.now c.args.steps k)) c.loop-glyph.all.items (sizes c.args.source.now c.args.at.now c.args.steps c.args.count) g (c.args.count - g) (omega arith) c.loop-glyph.invariant.value
