use Rattle.std.proofs.Common.{◌≡◌, ◌+◌, ◌++◌, length}
use Rattle.text_glyphs.specs.Reading.{missing_from}
use Rattle.text_glyphs.proofs.reading.missing_by.Given as goal

abbrev pub invariant-loop-rest : goal.invariant-loop-rest
invariant-loop-rest l = record {
  so_far : l.places.items ++ missing_from l.place l.rest l.left ≡ missing_from 0 l.text l.glyphs;
  place : l.place + length l.rest ≡ length l.text;
}

abbrev pub decreases-loop-rest : goal.decreases-loop-rest
decreases-loop-rest l = length l.rest
