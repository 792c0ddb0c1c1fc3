use Rattle.std.proofs.Common.{◌≡◌, drop, Option}
use Rattle.std.specs.List.{fold}
use Rattle.subsetter_instance.specs.Glyphs.Drawn.{Drawn}
use Rattle.subsetter_instance.specs.declared.tables.extremes.Extents.{Extents}
use Rattle.subsetter_instance.specs.Tables.Extremes.{glyph_extents, joined, all_extents}
use Rattle.subsetter_instance.proofs.tables.extremes.all_extents.Given as goal

abbrev pub invariant-loop-glyph : goal.invariant-loop-glyph
invariant-loop-glyph l = all_extents l.drawn ≡ fold (λ (e : Option Extents) (d : Drawn). joined e (glyph_extents d.advance d.points)) l.all (drop l.glyph-index l.drawn)
