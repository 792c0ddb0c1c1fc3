use Rattle.std.proofs.Common.{◌≡◌, ◌++◌, drop}
use Rattle.std.specs.List.{flat_map}
use Rattle.subsetter_sfnt.specs.Fields.Hmtx.{metric_bytes}
use Rattle.own_glyphs.proofs.headers.hmtx.Given as goal

abbrev pub invariant-loop-metric : goal.invariant-loop-metric
invariant-loop-metric l = l.hmtx.items ++ flat_map metric_bytes (drop l.metric-index l.metrics) ≡ flat_map metric_bytes l.metrics
