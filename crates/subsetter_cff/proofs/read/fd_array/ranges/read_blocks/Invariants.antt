use Rattle.std.proofs.Common.{◌≡◌, length}
use Rattle.subsetter_cff.specs.Read.FdArray.Ranges.{AreBounds}
use Rattle.subsetter_cff.proofs.read.fd_array.ranges.read_blocks.Given as goal

abbrev pub invariant-loop-i : goal.invariant-loop-i
invariant-loop-i l = record {
  lows : length l.least ≡ 256;
  highs : length l.greatest ≡ 256;
  bounds : AreBounds l.bytes l.i l.least l.greatest;
}
