use Rattle.std.proofs.Common.{◌≡◌, ◌-◌}
use Rattle.cmap.specs.Segments.{by_segments}
use Rattle.cmap.proofs.segments.find_glyph.Given as goal

abbrev pub invariant-loop-segment : goal.invariant-loop-segment
invariant-loop-segment l = by_segments l.table l.count (l.count - l.segment) l.segment l.character ≡ by_segments l.table l.count l.count 0 l.character
