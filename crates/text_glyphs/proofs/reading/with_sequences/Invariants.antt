use Rattle.std.proofs.Common.{◌≡◌, ◌++◌, length}
use Rattle.text_glyphs.specs.Own.{with_sequences}
use Rattle.text_glyphs.specs.View.{source_view}
use Rattle.text_glyphs.proofs.reading.with_sequences.Given as goal

abbrev pub invariant-loop-rest : goal.invariant-loop-rest
invariant-loop-rest l = l.glyphs.items ++ with_sequences (source_view l.source) l.rest l.left ≡ with_sequences (source_view l.source) l.text l.own

abbrev pub decreases-loop-rest : goal.decreases-loop-rest
decreases-loop-rest l = length l.rest
