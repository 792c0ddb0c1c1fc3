use Rattle.std.proofs.Common.{◌≡◌, length}
use Rattle.subsetter_sfnt.specs.Fields.Hmtx.{metric_in}
use Rattle.own_glyphs.specs.Source.{AreFrom}
use Rattle.own_glyphs.proofs.source.Source.metrics.Given as goal

abbrev pub invariant-loop-glyph : goal.invariant-loop-glyph
invariant-loop-glyph l = record { each : AreFrom (metric_in l.self.hmtx.now l.self.pairs) 0 l.metrics.items; count : length l.metrics.items ≡ l.glyph }
