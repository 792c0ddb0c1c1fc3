use Rattle.std.proofs.Common.{◌≡◌, ◌++◌, drop, take}
use Rattle.subsetter_cffdata.specs.Reals.Decimals.{digits, after_digits}
use Rattle.subsetter_cffdata.proofs.reals.real_text.split_digits.Given as goal

-- the text up to here are digits
abbrev pub invariant-loop-i : goal.invariant-loop-i
invariant-loop-i l = record {
  front : take l.i l.text ++ digits (drop l.i l.text) ≡ digits l.text;
  rest : after_digits (drop l.i l.text) ≡ after_digits l.text;
}
