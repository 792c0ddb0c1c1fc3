use Rattle.std.proofs.Common.{false, refl, ◌∙◌}
use Rattle.text_metrics.specs.Metrics.{metrics_seen}
use Rattle.subsetter_c.specs.Documents.TextFonts.{without_own}
use Rattle.subsetter_c.proofs.DocumentsLaws.Runs.{all_as, kept_as, metrics_as}
use Rattle.subsetter_c.proofs.documents.text_fonts.kept_of.Goals as goal

pub returns-clause-seen : goal.returns-clause-seen
returns-clause-seen c =
    let m = metrics_seen c.args.found.now in
    all_as (without_own m) (metrics_as c.font-seen.result.units c.in_ok-metrics.metrics.items c.in_ok-inked.inked.items) c.new.result.items c.new-2.result.items 0 false
    (kept_as m c.font-seen.result.units c.in_ok-metrics.metrics.items c.in_ok-inked.inked.items c.font-seen.ensures.units (c.in_ok-metrics.ensures.items ∙ c.font-seen.ensures.metrics) (c.in_ok-inked.ensures.items ∙ c.font-seen.ensures.inked))
    c.new.ensures.items c.new-2.ensures.items refl refl
