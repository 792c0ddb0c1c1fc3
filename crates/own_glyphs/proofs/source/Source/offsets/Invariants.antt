use Rattle.std.proofs.Common.{◌≡◌, length}
use Rattle.subsetter_sfnt.specs.Fields.Loca.{loca_offset}
use Rattle.own_glyphs.specs.Source.{AreFrom}
use Rattle.own_glyphs.proofs.source.Source.offsets.Given as goal

abbrev pub invariant-loop-entry : goal.invariant-loop-entry
invariant-loop-entry l = record { each : AreFrom (loca_offset l.self.loca.now l.self.long) 0 l.offsets.items; count : length l.offsets.items ≡ l.entry }
