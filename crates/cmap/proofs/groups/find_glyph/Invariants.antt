use Rattle.std.proofs.Common.{◌≡◌, ◌+◌, ◌-◌, ◌*◌}
use Rattle.cmap.specs.Groups.{by_groups}
use Rattle.cmap.proofs.groups.find_glyph.Given as goal

abbrev pub invariant-loop-place : goal.invariant-loop-place
invariant-loop-place l = by_groups l.table (l.count - l.place) (16 + 12 * l.place) l.character ≡ by_groups l.table l.count 16 l.character
