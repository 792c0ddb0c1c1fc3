use Rattle.std.proofs.Common.{◌≡◌, length, Some, sym, ap, ◌∙◌, [], ◌∷◌, inr, arith}
use Rattle.std.proofs.lemmas.List.{length-append}
use Rattle.std.proofs.lemmas.Result.{err_from_is_err_and}
use Rattle.subsetter_base.specs.declared.error.Error.TheVariants.{MalformedFont}
use Rattle.subsetter_base.proofs.Results.{named_err, named_ok}
use Rattle.subsetter_sfnt.specs.Fields.Hmtx.{metric_in}
use Rattle.own_glyphs.specs.Refused.{cut_hmtx}
use Rattle.own_glyphs.proofs.Values.{pushed}
use Rattle.own_glyphs.proofs.source.Source.metrics.Goals as goal

pub returns-in_err-metric-clause-err : goal.returns-in_err-metric-clause-err
returns-in_err-metric-clause-err c =
    let p = err_from_is_err_and c.from_residual-in_err-metric.result c.from_residual-in_err-metric.ensures.1 in
    let n = named_err c.glyph_metric.result MalformedFont c.in_err-metric.field-0.0 (sym c.in_err-metric.ensures.value) in
    rw (p.1, p.2) (inr (sym n.1, cut_hmtx c.loop-glyph.glyph c.loop-glyph-test.true (sym c.glyph_metric.ensures ∙ n.0)))

pub loop-glyph-preserved : goal.loop-glyph-preserved
loop-glyph-preserved c =
    let t = c.args.self.now in
    let i = c.loop-glyph.invariant in
    let found : metric_in t.hmtx.now t.pairs c.loop-glyph.glyph ≡ Some c.in_ok-metric.metric = sym c.glyph_metric.ensures ∙ named_ok c.glyph_metric.result MalformedFont c.in_ok-metric.metric (sym c.in_ok-metric.ensures.value) in
    record {
      each = pushed (metric_in t.hmtx.now t.pairs) c.loop-glyph.glyph c.loop-glyph.metrics.items c.push.new.self.items c.in_ok-metric.metric i.each i.count found c.in_ok-push.ensures.items;
      count = omega (arith, ap length c.in_ok-push.ensures.items, length-append c.loop-glyph.metrics.items (c.in_ok-metric.metric ∷ []), i.count);
    }
