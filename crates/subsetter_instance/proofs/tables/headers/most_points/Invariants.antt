use Rattle.std.proofs.Common.{◌≡◌, length, drop, map, max}
use Rattle.std.specs.List.{fold}
use Rattle.subsetter_instance.specs.Glyphs.Drawn.{Drawn}
use Rattle.subsetter_instance.specs.Tables.Written.{most_points}
use Rattle.subsetter_instance.proofs.tables.headers.most_points.Given as goal

abbrev pub invariant-loop-glyph : goal.invariant-loop-glyph
invariant-loop-glyph l = most_points l.drawn ≡ fold max l.most (map (λ (d : Drawn). length d.points) (drop l.glyph-index l.drawn))
