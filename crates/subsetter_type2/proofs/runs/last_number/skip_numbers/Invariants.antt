use Rattle.std.proofs.Common.{◌≡◌, ◌≤◌, List, length, drop}
use Rattle.subsetter_cffdata.specs.declared.numerals.charstring_number.CharStringNumber.{CharStringNumber}
use Rattle.subsetter_type2.specs.Flat.{flat_operands}
use Rattle.subsetter_type2.specs.Runs.OutputView.{AllFit}
use Rattle.subsetter_type2.proofs.runs.last_number.skip_numbers.Given as goal

abbrev pub invariant-loop : goal.invariant-loop
invariant-loop l = record {
  inside : length l.rest ≤ length l.bytes;
  following : (numbers : List CharStringNumber) → AllFit numbers → l.bytes ≡ flat_operands numbers → l.count ≤ length numbers → l.rest ≡ flat_operands (drop l.counter numbers);
}
