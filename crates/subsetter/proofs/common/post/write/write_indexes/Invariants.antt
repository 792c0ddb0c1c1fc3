use Rattle.std.proofs.Common.{◌≡◌, ◌+◌, ◌++◌, drop}
use Rattle.subsetter.specs.Common.Post.Plain.{custom_count, new_indexes}
use Rattle.subsetter.proofs.common.post.write.write_indexes.Given as goal

abbrev pub invariant-loop-index : goal.invariant-loop-index
invariant-loop-index l = record {
  written : l.w ++ new_indexes l.custom (drop l.index-index l.indexes) ≡ l.fn.w ++ new_indexes 0 l.indexes;
  rest : l.custom + custom_count (drop l.index-index l.indexes) ≡ custom_count l.indexes;
}
