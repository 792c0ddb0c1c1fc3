use Rattle.std.proofs.Common.{◌≡◌, ◌+◌, ◌-◌, ◌++◌, replicate}
use Rattle.subsetter_cffdata.specs.Reals.TextSteps.{shown}
use Rattle.subsetter_cffdata.proofs.reals.real_writing.put_zeros.Given as goal

abbrev pub invariant-loop : goal.invariant-loop
invariant-loop l = record {
  after : shown l.text ++ replicate (l.count - l.counter) 0 ≡ shown l.initial.text ++ replicate l.count 0;
  len : l.text.len ≡ l.initial.text.len + l.counter;
}
