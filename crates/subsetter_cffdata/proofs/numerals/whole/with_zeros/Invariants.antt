use Rattle.std.proofs.Common.{◌≡◌, ◌≤◌, ◌*◌, ◌^◌, ◌-◌}
use Rattle.subsetter_cffdata.proofs.numerals.whole.with_zeros.Given as goal

abbrev pub invariant-loop : goal.invariant-loop
invariant-loop l = record {
  small : l.size ≤ 2147483648;
  rest : l.size * 10 ^ (l.count - l.counter) ≡ l.n * 10 ^ l.count;
}
