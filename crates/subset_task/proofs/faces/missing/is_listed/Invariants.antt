use Rattle.std.proofs.Common.{◌≡◌, drop}
use Rattle.subsetter_base.specs.Indexes.{is_listed}
use Rattle.subset_task.proofs.faces.missing.is_listed.Given as goal

abbrev pub invariant-loop-one : goal.invariant-loop-one
invariant-loop-one l = is_listed (drop l.one-index l.found) l.character ≡ is_listed l.found l.character
