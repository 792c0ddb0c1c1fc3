use Rattle.std.proofs.Common.{◌≡◌, ◌++◌, drop}
use Rattle.subsetter_cff_at.specs.Plain.{present}
use Rattle.subsetter_cff_at.proofs.numbers.present.Given as goal

abbrev pub invariant-loop-number : goal.invariant-loop-number
invariant-loop-number l = l.found.items ++ present (drop l.number-index l.numbers) ≡ present l.numbers
