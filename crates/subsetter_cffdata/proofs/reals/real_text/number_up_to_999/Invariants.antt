use Rattle.std.proofs.Common.{◌≡◌, ◌≤◌, drop}
use Rattle.std.specs.Int.Digits.{number_from_digits_after}
use Rattle.subsetter_cffdata.specs.Reals.Decimals.{number}
use Rattle.subsetter_cffdata.proofs.reals.real_text.number_up_to_999.Given as goal

abbrev pub invariant-loop-d : goal.invariant-loop-d
invariant-loop-d l = record {
  small : l.n ≤ 999;
  rest : number_from_digits_after 10 l.n (drop l.d-index l.ds) ≡ number l.ds;
}
