use Rattle.std.proofs.Common.{◌≡◌, ◌<◌, length, drop, take, map}
use Rattle.subsetter_cffdata.specs.Dicts.Dict.{entry_at}
use Rattle.subsetter_cffdata.specs.Reading.{rest}
use Rattle.subsetter_cffdata.specs.Dicts.Tokens.{with_operands}
use Rattle.subsetter_cffdata.specs.Views.{number_of}
use Rattle.subsetter_cffdata.proofs.dicts.tokens.read_entry.Given as goal

-- the operands so far and those that are left are those of the whole
abbrev pub invariant-loop-found : goal.invariant-loop-found
invariant-loop-found l = record {
  operands : with_operands (map number_of (take l.len l.buffer)) (entry_at (rest l.r)) ≡ entry_at (drop l.offset l.bytes);
  same : l.r.bytes ≡ l.bytes;
  room : l.len < length l.buffer;
}

abbrev pub decreases-loop-found : goal.decreases-loop-found
decreases-loop-found l = length (rest l.r)
