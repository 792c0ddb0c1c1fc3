use Rattle.std.proofs.Common.{◌≡◌, ◌-◌, ◌++◌}
use Rattle.text_metrics.specs.Ink.{each_from}
use Rattle.own_choice.specs.Parts.{has_small_outline, outlines_seen}
use Rattle.own_choice.proofs.outlines.small_outlines.Given as goal

abbrev pub invariant-loop-glyph : goal.invariant-loop-glyph
invariant-loop-glyph l =
    l.small.items ++ each_from (has_small_outline (outlines_seen l.tables)) l.glyph (l.count - l.glyph) ≡ each_from (has_small_outline (outlines_seen l.tables)) 0 l.count
