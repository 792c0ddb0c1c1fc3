use Rattle.std.proofs.Common.{◌≡◌, ◌+◌, length}
use Rattle.subsetter_base.proofs.Results.{with_front}
use Rattle.subsetter.specs.Common.Post.Plain.{seen_post, indexes_of}
use Rattle.subsetter.proofs.common.post.read.Version2Table.indexes.Given as goal

abbrev pub invariant-loop-old : goal.invariant-loop-old
invariant-loop-old l = record {
  so_far : with_front l.indexes.items (indexes_of (seen_post l.self) l.old-iterator) ≡ indexes_of (seen_post l.self) l.mapper;
  each : length l.indexes.items + length l.old-iterator ≡ length l.mapper;
}
