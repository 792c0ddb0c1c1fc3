use Rattle.std.proofs.Common.{◌≡◌, drop}
use Rattle.own_glyphs.specs.Written.{AreSmall, further, metrics_with}
use Rattle.own_glyphs.proofs.adding.add_metrics.Given as goal

abbrev pub invariant-loop-k : goal.invariant-loop-k
invariant-loop-k l = record {
  written : metrics_with l.metrics.items (further (drop l.k l.own) (drop l.k l.boxes)) ≡ metrics_with l.fn.metrics.items (further l.own l.boxes);
  small : AreSmall (further (drop l.k l.own) (drop l.k l.boxes)) → AreSmall (further l.own l.boxes);
}
