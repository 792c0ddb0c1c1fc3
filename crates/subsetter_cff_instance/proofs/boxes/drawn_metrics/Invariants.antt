use Rattle.std.proofs.Common.{◌≡◌, map}
use Rattle.std.specs.List.{range_with_len}
use Rattle.subsetter_cff_instance.specs.Boxes.{drawn_metric}
use Rattle.subsetter_cff_instance.proofs.boxes.drawn_metrics.Given as goal

abbrev pub invariant-loop-glyph : goal.invariant-loop-glyph
invariant-loop-glyph l = l.drawn.items ≡ map (drawn_metric l.all l.boxes) (range_with_len 0 l.glyph)
