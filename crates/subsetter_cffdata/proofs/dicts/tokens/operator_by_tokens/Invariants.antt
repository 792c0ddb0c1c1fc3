use Rattle.std.proofs.Common.{◌≡◌, length, drop}
use Rattle.subsetter_cffdata.specs.Dicts.Dict.{entry_at}
use Rattle.subsetter_cffdata.specs.Reading.{rest}
use Rattle.subsetter_cffdata.specs.Dicts.Tokens.{operator_part}
use Rattle.subsetter_cffdata.proofs.dicts.tokens.operator_by_tokens.Given as goal

-- the entry that is left has the operator of the whole
abbrev pub invariant-loop-found : goal.invariant-loop-found
invariant-loop-found l = record {
  operator : operator_part (entry_at (rest l.r)) ≡ operator_part (entry_at (drop l.offset l.bytes));
  same : l.r.bytes ≡ l.bytes;
}

abbrev pub decreases-loop-found : goal.decreases-loop-found
decreases-loop-found l = length (rest l.r)
