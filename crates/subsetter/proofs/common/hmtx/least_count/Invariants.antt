use Rattle.std.proofs.Common.{◌≡◌, ◌+◌, ◌≤◌, drop, cond}
use Rattle.subsetter.specs.Common.Hmtx.Written.{all_advance, least_count}
use Rattle.subsetter.proofs.common.hmtx.least_count.Given as goal

-- where a metric to come has another advance, the last such decides
abbrev pub invariant-loop-metric : goal.invariant-loop-metric
invariant-loop-metric l =
    (cond (all_advance l.advance (drop l.metric-index l.rest)) l.count (l.seen + least_count (drop l.metric-index l.rest)) ≡ least_count l.metrics)
    × (l.count ≤ l.seen) × (l.seen ≡ l.metric-index + 1)
