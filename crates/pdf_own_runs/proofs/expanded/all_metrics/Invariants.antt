use Rattle.std.proofs.Common.{◌≡◌, ◌++◌, drop, map}
use Rattle.pdf_own_runs.specs.Fonts.{own_metrics}
use Rattle.pdf_own_runs.proofs.expanded.all_metrics.Given as goal

abbrev pub invariant-loop-glyph : goal.invariant-loop-glyph
invariant-loop-glyph l = l.all.items ++ map (own_metrics l.units) (drop l.glyph-index l.own) ≡ l.metrics ++ map (own_metrics l.units) l.own
