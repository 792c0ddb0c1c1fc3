use Rattle.std.proofs.Common.{◌∙◌}
use Rattle.own_choice.specs.Choosing.{chosen_seen}
use Rattle.text_metrics.specs.Metrics.{metrics_seen}
use Rattle.subsetter_c.proofs.DocumentsLaws.Runs.{all_as, kept_as, metrics_as}
use Rattle.subsetter_c.proofs.documents.text_fonts.kept_with.Goals as goal

pub returns-clause-seen : goal.returns-clause-seen
returns-clause-seen c =
    let m = metrics_seen c.args.found.now.lines in
    all_as (chosen_seen c.args.found.now) (metrics_as c.font-seen.result.units c.in_ok-metrics.metrics.items c.in_ok-inked.inked.items) c.in_ok-advances.advances.items c.in_ok-partable.partable.items c.choice-choice.result.most_parts c.choice-choice.result.is_still
    (kept_as m c.font-seen.result.units c.in_ok-metrics.metrics.items c.in_ok-inked.inked.items c.font-seen.ensures.units (c.in_ok-metrics.ensures.items ∙ c.font-seen.ensures.metrics) (c.in_ok-inked.ensures.items ∙ c.font-seen.ensures.inked))
    (c.in_ok-advances.ensures.items ∙ c.choice-choice.ensures.advances) (c.in_ok-partable.ensures.items ∙ c.choice-choice.ensures.can_be_part) c.choice-choice.ensures.most_parts c.choice-choice.ensures.is_still
