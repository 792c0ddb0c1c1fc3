use Rattle.std.proofs.Common.{◌≡◌, drop}
use Rattle.font_reasons.specs.Outlines.{reached_from}
use Rattle.font_reasons.specs.View.{reach_view}
use Rattle.font_reasons.proofs.outlines.reached_from.Given as goal

abbrev pub invariant-loop-glyph : goal.invariant-loop-glyph
invariant-loop-glyph l = reached_from l.tables.glyf.now l.tables.loca.now l.tables.format (reach_view l.reached) (drop l.glyph-index l.glyphs) ≡ reached_from l.tables.glyf.now l.tables.loca.now l.tables.format (reach_view l.fn.known) l.glyphs
