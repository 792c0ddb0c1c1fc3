use Rattle.std.proofs.Common.{◌≡◌, drop}
use Rattle.subsetter_cffdata.specs.Reals.Decimals.{stripped}
use Rattle.subsetter_cffdata.proofs.reals.real_text.zeros_in_front.Given as goal

-- only zeros are before this place
abbrev pub invariant-loop-i : goal.invariant-loop-i
invariant-loop-i l = stripped (drop l.i l.ds) ≡ stripped l.ds
