use Rattle.std.proofs.Common.{sym, ◌∙◌}
use Rattle.cmap.proofs.Steps.{segments_here}
use Rattle.cmap.proofs.segments.find_glyph.Goals as goal

pub returns-then-character-end : goal.returns-then-character-end
returns-then-character-end c = c.in_segment.ensures ∙ (sym (segments_here c.args.table.now c.args.count c.loop-segment.segment c.args.character (sym c.number_at.ensures ∙ c.in_ok-end.was) c.if-character-end.true c.loop-segment-test.true) ∙ c.loop-segment.invariant)
