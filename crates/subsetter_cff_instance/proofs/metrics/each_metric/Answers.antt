use Rattle.std.proofs.Common.{◌≡◌, ◌+◌, List, [], get_or, drop, sym, ap, ◌∙◌, arith}
use Rattle.std.proofs.lemmas.List.{drop_all, drop_more}
use Rattle.std.proofs.lemmas.Result.{err_from_is_err_and}
use Rattle.subsetter_base.proofs.Results.{with_front}
use Rattle.subsetter_sfnt.specs.declared.fields.hmtx.LongHorMetric.{LongHorMetric}
use Rattle.subsetter_cff_instance.specs.Metrics.{varied_metrics}
use Rattle.subsetter_cff_instance.proofs.MetricsLaws.{known_is, metrics_cut, metrics_end, metrics_step}
use Rattle.subsetter_cff_instance.proofs.metrics.each_metric.Goals as goal

pub metric_if-requires : goal.metric_if-requires
metric_if-requires c = known_is c.args.source.now.hvar c.args.at.now c.args.glyphs.now c.args.known.now c.loop-place.place c.known_at.result c.requires c.known_at.ensures

pub loop-place-preserved : goal.loop-place-preserved
loop-place-preserved c =
    let gs = c.args.glyphs.now in
    let place = c.loop-place.place in
    let e = drop_more gs place 0 c.loop-place-test.true in
    ap (λ (l : List LongHorMetric). with_front l (varied_metrics c.args.source.now c.args.at.now (drop (place + 1) gs))) c.in_ok-push.ensures.items
    ∙ sym (metrics_step c.args.source.now c.args.at.now c.loop-place.metrics.items (get_or gs place 0) (drop place gs) (drop (place + 1) gs) c.in_ok-metric.metric e (sym c.in_ok-metric.ensures))
    ∙ c.loop-place.invariant

pub returns-in_err-metric : goal.returns-in_err-metric
returns-in_err-metric c =
    let gs = c.args.glyphs.now in
    let place = c.loop-place.place in
    let e = drop_more gs place 0 c.loop-place-test.true in
    let p = err_from_is_err_and c.from_residual-in_err-metric.result c.from_residual-in_err-metric.ensures.1 in
    rw (p.1, p.2) (metrics_cut c.args.source.now c.args.at.now c.loop-place.metrics.items (get_or gs place 0) (drop place gs) (drop (place + 1) gs) _ _ e c.loop-place.invariant (sym c.in_err-metric.ensures))

pub returns : goal.returns
returns c =
    let none : drop c.loop-place.place c.args.glyphs.now ≡ [] = drop_all c.loop-place.place c.args.glyphs.now (omega arith) in
    sym c.loop-place.invariant ∙ metrics_end c.args.source.now c.args.at.now c.loop-place.metrics.items (drop c.loop-place.place c.args.glyphs.now) none
