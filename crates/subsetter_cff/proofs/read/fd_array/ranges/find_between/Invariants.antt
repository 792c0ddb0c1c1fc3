use Rattle.std.proofs.Common.{◌≡◌, ◌-◌}
use Rattle.subsetter_cff.specs.Read.FdArray.Ranges.{found_from}
use Rattle.subsetter_cff.proofs.read.fd_array.ranges.find_between.Given as goal

abbrev pub invariant-loop-i : goal.invariant-loop-i
invariant-loop-i l = found_from l.bytes l.glyph (l.to - l.i) l.i ≡ found_from l.bytes l.glyph (l.to - l.from) l.from
