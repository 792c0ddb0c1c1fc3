use Rattle.std.proofs.Common.{◌≡◌, ◌<◌, ◌*◌, ℕ, length, min}
use Rattle.subsetter_cff2.proofs.SelectionLaws.BlockSteps.{OfBlock}
use Rattle.subsetter_cff2.proofs.selection.search.read_blocks.Given as goal

abbrev pub invariant-loop-block : goal.invariant-loop-block
invariant-loop-block l = record {
  lows : length l.least ≡ 256;
  highs : length l.greatest ≡ 256;
  reached : l.from ≡ min (l.block * l.size) l.list.count;
  bounds : (b : ℕ) → b < l.block → OfBlock l.bytes l.list.is_wide l.list.at l.list.count l.size b l.least l.greatest;
}
