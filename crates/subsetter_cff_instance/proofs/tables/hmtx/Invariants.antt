use Rattle.std.proofs.Common.{◌≡◌, ◌++◌, drop}
use Rattle.std.specs.List.{flat_map}
use Rattle.subsetter_sfnt.specs.Fields.Hmtx.{metric_bytes}
use Rattle.subsetter_cff_instance.specs.Metrics.{filled}
use Rattle.subsetter_cff_instance.proofs.tables.hmtx.Given as goal

abbrev pub invariant-loop-metric : goal.invariant-loop-metric
invariant-loop-metric l = l.hmtx.items ++ flat_map metric_bytes (filled (drop l.metric-index l.all)) ≡ flat_map metric_bytes (filled l.all)
