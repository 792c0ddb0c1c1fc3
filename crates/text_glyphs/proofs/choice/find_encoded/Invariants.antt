use Rattle.std.proofs.Common.{◌≡◌, ◌+◌, ◌-◌, ◌*◌}
use Rattle.text_glyphs.specs.Choice.{encoded_from}
use Rattle.text_glyphs.proofs.choice.find_encoded.Given as goal

abbrev pub invariant-loop-record : goal.invariant-loop-record
invariant-loop-record l = encoded_from l.encoding l.cmap (l.count - l.record) (4 + 8 * l.record) ≡ encoded_from l.encoding l.cmap l.count 4
