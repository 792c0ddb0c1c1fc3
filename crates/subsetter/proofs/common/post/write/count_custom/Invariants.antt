use Rattle.std.proofs.Common.{◌≡◌, ◌≤◌, take}
use Rattle.subsetter.specs.Common.Post.Plain.{custom_count}
use Rattle.subsetter.proofs.common.post.write.count_custom.Given as goal

abbrev pub invariant-loop-index : goal.invariant-loop-index
invariant-loop-index l = record {
  so_far : l.count ≡ custom_count (take l.index-index l.indexes);
  small : l.count ≤ l.index-index;
}
