use Rattle.std.proofs.Common.{◌≡◌, ◌≤◌, ◌-◌}
use Rattle.pdf_widths.specs.Opening.{first_operator}
use Rattle.pdf_widths.proofs.opening.first_operator.Given as goal

abbrev pub invariant-loop-operands : goal.invariant-loop-operands
invariant-loop-operands l = record {
  within : l.operands ≤ 49;
  same : first_operator (49 - l.operands) l.operands l.rest ≡ first_operator 49 0 l.charstring;
}

abbrev pub decreases-loop-operands : goal.decreases-loop-operands
decreases-loop-operands l = 49 - l.operands
