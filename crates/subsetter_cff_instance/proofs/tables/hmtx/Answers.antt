use Rattle.std.proofs.Common.{◌≡◌, [], ◌++◌, drop, sym, ap, ◌∙◌, arith}
use Rattle.std.specs.List.{flat_map}
use Rattle.std.proofs.lemmas.List.{append-nil, drop_all}
use Rattle.subsetter_sfnt.specs.Fields.Hmtx.{metric_bytes}
use Rattle.subsetter_cff_instance.specs.Metrics.{filled}
use Rattle.subsetter_cff_instance.proofs.TablesLaws.{flat_is}
use Rattle.subsetter_cff_instance.proofs.tables.hmtx.Goals as goal

pub returns-clause-ok : goal.returns-clause-ok
returns-clause-ok c =
    let all = c.args.all.now in
    let items = c.loop-metric.hmtx.items in
    let none : drop c.loop-metric.metric-index all ≡ [] = drop_all c.loop-metric.metric-index all (omega (arith, c.loop-metric-test.false)) in
    sym (append-nil items) ∙ ap (λ k. items ++ flat_map metric_bytes (filled k)) (sym none) ∙ c.loop-metric.invariant ∙ flat_is all
