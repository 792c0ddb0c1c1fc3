use Rattle.std.proofs.Common.{◌≡◌, length, drop, map, max}
use Rattle.std.specs.List.{fold}
use Rattle.subsetter_instance.specs.Glyphs.Drawn.{Drawn}
use Rattle.subsetter_instance.specs.Tables.Written.{most_contours}
use Rattle.subsetter_instance.proofs.tables.headers.most_contours.Given as goal

abbrev pub invariant-loop-glyph : goal.invariant-loop-glyph
invariant-loop-glyph l = most_contours l.drawn ≡ fold max l.most (map (λ (d : Drawn). length d.ends) (drop l.glyph-index l.drawn))
