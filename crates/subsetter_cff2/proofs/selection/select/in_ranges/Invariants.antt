use Rattle.std.proofs.Common.{◌≡◌, ◌+◌, ◌-◌, ◌*◌}
use Rattle.subsetter_cff2.specs.Selection.Select.{in_ranges, width_of}
use Rattle.subsetter_cff2.proofs.selection.select.in_ranges.Given as goal

abbrev pub invariant-loop-i : goal.invariant-loop-i
invariant-loop-i l = in_ranges l.bytes l.is_wide l.glyph (l.count - l.i) (l.at + l.i * width_of l.is_wide) ≡ in_ranges l.bytes l.is_wide l.glyph l.count l.at
