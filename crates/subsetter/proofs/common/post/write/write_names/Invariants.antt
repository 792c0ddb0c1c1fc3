use Rattle.std.proofs.Common.{◌≡◌, ◌<◌, ◌+◌, ◌^◌, ◌++◌, drop}
use Rattle.std.specs.Prelude.{flat_map}
use Rattle.subsetter.specs.Common.Post.Marks.{run_bytes}
use Rattle.subsetter.specs.Common.Post.Plain.{entry_of}
use Rattle.subsetter.proofs.common.post.write.write_names.Given as goal

abbrev pub invariant-loop-index : goal.invariant-loop-index
invariant-loop-index l = record {
  written : (l.w ++ run_bytes l.names l.run.from l.run.count) ++ flat_map (entry_of l.names) (drop l.index-index l.indexes) ≡ l.fn.w ++ flat_map (entry_of l.names) l.indexes;
  small : l.run.from + l.run.count < 2 ^ 17;
}
