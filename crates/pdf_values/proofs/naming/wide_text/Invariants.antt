use Rattle.std.proofs.Common.{◌≡◌, ◌++◌, length}
use Rattle.pdf_values.specs.Name.{wide_text}
use Rattle.pdf_values.proofs.naming.wide_text.Given as goal

abbrev pub invariant-loop-rest : goal.invariant-loop-rest
invariant-loop-rest l = l.text.items ++ wide_text l.rest ≡ wide_text l.bytes

abbrev pub decreases-loop-rest : goal.decreases-loop-rest
decreases-loop-rest l = length l.rest
