use Rattle.std.proofs.Common.{◌≡◌, ◌++◌, drop}
use Rattle.subsetter_points.specs.Simple.{end_bytes}
use Rattle.subsetter_points.proofs.list_bytes.end_bytes.write_ends.Given as goal

abbrev pub invariant-loop-end : goal.invariant-loop-end
invariant-loop-end l = l.fn.out.items ++ end_bytes l.ends ≡ l.out.items ++ end_bytes (drop l.end-index l.ends)
