use Rattle.std.proofs.Common.{◌≡◌, ◌++◌, drop}
use Rattle.subsetter_sfnt.specs.Fields.Loca.{loca_bytes}
use Rattle.own_glyphs.proofs.headers.loca.Given as goal

abbrev pub invariant-loop-offset : goal.invariant-loop-offset
invariant-loop-offset l = l.loca.items ++ loca_bytes l.long (drop l.offset-index l.offsets) ≡ loca_bytes l.long l.offsets
