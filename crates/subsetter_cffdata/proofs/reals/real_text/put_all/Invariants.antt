use Rattle.std.proofs.Common.{◌≡◌, ◌+◌, ◌++◌, drop}
use Rattle.subsetter_cffdata.specs.Reals.TextSteps.{shown}
use Rattle.subsetter_cffdata.proofs.reals.real_text.put_all.Given as goal

abbrev pub invariant-loop-d : goal.invariant-loop-d
invariant-loop-d l = record {
  after : shown l.text ++ drop l.d-index l.ds ≡ shown l.initial.text ++ l.ds;
  len : l.text.len ≡ l.initial.text.len + l.d-index;
}
