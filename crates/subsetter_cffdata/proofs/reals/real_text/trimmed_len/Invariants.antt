use Rattle.std.proofs.Common.{◌≡◌, ◌≤◌, take, length}
use Rattle.subsetter_cffdata.specs.Reals.Decimals.{trimmed}
use Rattle.subsetter_cffdata.proofs.reals.real_text.trimmed_len.Given as goal

abbrev pub invariant-loop-len : goal.invariant-loop-len
invariant-loop-len l = record {
  within : l.len ≤ length l.ds;
  kept : trimmed (take l.len l.ds) ≡ trimmed l.ds;
}

abbrev pub decreases-loop-len : goal.decreases-loop-len
decreases-loop-len l = l.len
