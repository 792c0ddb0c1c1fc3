use Rattle.std.proofs.Common.{◌≡◌, ◌≤◌, ◌++◌}
use Rattle.pdf_names.specs.Decimal.{digits}
use Rattle.pdf_names.proofs.decimal.write_digits.Given as goal

abbrev pub invariant-loop-left : goal.invariant-loop-left
invariant-loop-left l = record {
  few : l.left ≤ 5;
  written : l.text.items ++ digits l.left l.m ≡ l.fn.text.items ++ digits l.k l.m;
}

abbrev pub decreases-loop-left : goal.decreases-loop-left
decreases-loop-left l = l.left
