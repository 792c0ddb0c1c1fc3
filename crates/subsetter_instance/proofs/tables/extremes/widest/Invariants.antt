use Rattle.std.proofs.Common.{◌≡◌, drop, map, max}
use Rattle.std.specs.List.{fold}
use Rattle.subsetter_instance.specs.Glyphs.Drawn.{Drawn}
use Rattle.subsetter_instance.specs.Tables.Extremes.{widest}
use Rattle.subsetter_instance.proofs.tables.extremes.widest.Given as goal

abbrev pub invariant-loop-glyph : goal.invariant-loop-glyph
invariant-loop-glyph l = widest l.drawn ≡ fold max l.most (map (λ (d : Drawn). d.advance) (drop l.glyph-index l.drawn))
