use Rattle.std.proofs.Common.{◌≡◌, drop}
use Rattle.subsetter_base.proofs.Results.{with_front}
use Rattle.font_advances.specs.Widths.{each, metrics_seen, still_width}
use Rattle.font_advances.proofs.widths.each_still.Given as goal

abbrev pub invariant-loop-place : goal.invariant-loop-place
invariant-loop-place l = with_front l.widths.items (each (still_width (metrics_seen l.metrics)) (drop l.place l.glyphs)) ≡ each (still_width (metrics_seen l.metrics)) l.glyphs
