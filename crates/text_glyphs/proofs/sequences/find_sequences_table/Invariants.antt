use Rattle.std.proofs.Common.{◌≡◌, ◌+◌, ◌-◌, ◌*◌}
use Rattle.text_glyphs.specs.Sequences.{sequences_from}
use Rattle.text_glyphs.proofs.sequences.find_sequences_table.Given as goal

abbrev pub invariant-loop-record : goal.invariant-loop-record
invariant-loop-record l = sequences_from l.cmap (l.count - l.record) (4 + 8 * l.record) ≡ sequences_from l.cmap l.count 4
