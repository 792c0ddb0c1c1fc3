use Rattle.std.proofs.Common.{ℕ, ◌+◌, ◌<◌, ◌≤◌, length}
use Rattle.std.specs.Prelude.{slice_index}
use Rattle.subsetter.proofs.common.post.write.custom_limit.Given as goal

abbrev pub invariant-loop-index : goal.invariant-loop-index
invariant-loop-index l = record {
  above : (k : ℕ) → k < l.index-index → slice_index l.indexes k < 258 + l.limit;
  least : (n : ℕ) → ((k : ℕ) → k < length l.indexes → slice_index l.indexes k < 258 + n) → l.limit ≤ n;
  small : l.limit ≤ 65535;
}
