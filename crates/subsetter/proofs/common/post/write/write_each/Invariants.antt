use Rattle.std.proofs.Common.{◌≡◌, ◌++◌}
use Rattle.subsetter.specs.Common.Post.Marks.{run_bytes}
use Rattle.subsetter.proofs.common.post.write.write_each.Given as goal

abbrev pub invariant-loop-i : goal.invariant-loop-i
invariant-loop-i l = l.w ≡ l.fn.w ++ run_bytes l.names l.from l.i
