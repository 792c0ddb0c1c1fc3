use Rattle.std.proofs.Common.{◌≡◌, ◌-◌, ◌++◌}
use Rattle.std.specs.Option.{option_map}
use Rattle.glyph_kinds.specs.Outlines.{has_outline}
use Rattle.glyph_kinds.specs.View.{outlines_view}
use Rattle.text_metrics.specs.Ink.{each_from}
use Rattle.text_metrics.proofs.ink.outlined.Given as goal

abbrev pub invariant-loop-glyph : goal.invariant-loop-glyph
invariant-loop-glyph l =
    l.inked.items ++ each_from (has_outline (option_map outlines_view l.outlines)) l.glyph (l.count - l.glyph) ≡ each_from (has_outline (option_map outlines_view l.outlines)) 0 l.count
