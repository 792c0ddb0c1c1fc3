use Rattle.std.proofs.Common.{◌≡◌, ◌-◌, ◌*◌}
use Rattle.subsetter_cff.specs.Read.FdArray.Ranges.{found_from}
use Rattle.subsetter_cff.proofs.read.fd_array.ranges.find_by_blocks.Given as goal

abbrev pub invariant-loop-block : goal.invariant-loop-block
invariant-loop-block l = found_from l.bytes l.glyph (l.count - 256 * l.block) (256 * l.block) ≡ found_from l.bytes l.glyph l.count 0
